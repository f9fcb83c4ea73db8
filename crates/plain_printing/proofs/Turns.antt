-- What a round does with a text between what stands before and behind it.
--     Turns           it passes one text and writes another
--     Ahead           what may stand before a factor
--     turn-fraction   a slash whose numerator has none becomes a fraction
--     turn-left       a slash is left if the round has rewritten something of its numerator
use Rattle.std.specs.Prelude.{◌≡◌, refl, true, false, ◌⊎◌, ℕ, suc, ◌+◌, ◌≤◌, ◌<◌, length}
use Rattle.std.proofs.Common.{ap, ◌∙◌, inl, inr, le_refl, arith, length-append}
use mathlib.Core.List.{List, [], ◌∷◌, ◌++◌, append_assoc, reverse, reverse_aux, reverse_aux-eq, reverse_aux-append, reverse-reverse}
use Rattle.std.proofs.Math.Option.{some}
use Prim.Native.Char.{code}
use Rattle.std.proofs.lemmas.List.{length-reverse}
use borrow.Author.Tests.{lt-ltb, le-ltb}
use Rattle.spec.specs.Symbols.{trim_start, drop_while, is, script_sign, head}
use Rattle.spec.specs.Fractions.{is_inside_subscript_context, script_opener, find_fraction_part_after, Done, behind_left, is_left, leaving, with_denominator, with_numerator, frac, slash, fractions_from}
use Rattle.spec.specs.Laws.Symbols.{until-append}
use Rattle.plain_printing.specs.Tree.{Join, beside, plus, minus, join_text, slashed}
use Rattle.plain_printing.specs.Classes.{apart}
use Rattle.plain_printing.specs.Nest.{Nest}
use Rattle.plain_printing.specs.Rule.{ends_factor, last}
use Rattle.plain_printing.proofs.Alphabet.{Ends}
use Rattle.plain_printing.proofs.Written.{join-nest}
use Rattle.plain_printing.proofs.Operand.{Edge, start, after-space, after-paren, after-brace, Stop, at-space, script-context-back, append-minus, until-onto, onto-minus, drop-onto, ReadAsOperand}
use Rattle.plain_printing.proofs.Stacked.{Copied}

onto-length : (s p : List ℕ) → length (reverse_aux s p) ≡ length s + length p
onto-length s p = omega (arith, ap length (reverse_aux-eq s p), length-append (reverse s) p, length-reverse s)

-- ---- a round that passes s behind p, before r, and writes w
-- the end of the text that it rewrote last lies no further back than it lay and within what it has passed; P holds where it rewrote nothing of s
pub record Passes (P : Type 0) (done : Done) (p o s w r : List ℕ) : Type 0 where
  pub after : Done
  pub from : done.rewritten ≤ after.rewritten
  pub within : after.rewritten ≤ length (reverse_aux s p)
  pub rewrote : P ⊎ (length p < after.rewritten)
  pub goes : fractions_from 0 done p o (s ++ r) ≡ fractions_from 0 after (reverse_aux s p) (reverse_aux w o) r

-- whatever it has done before p and written
pub record Turns (P : Type 0) (p s w r : List ℕ) : Type 0 where
  pub turn : (done : Done) (o : List ℕ) → done.rewritten ≤ length p → Passes P done p o s w r

pub weaken : {P Q : Type 0} {p s w r : List ℕ} → (P → Q) → Turns P p s w r → Turns Q p s w r
weaken f a = record {
  turn = λ done o h. let x = a.turn done o h in
      record { after = x.after; from = x.from; within = x.within; rewrote = elim x.rewrote [ inl e ↦ inl (f e) | inr e ↦ inr e ]; goes = x.goes };
}

pub kept : {P : Type 0} {w : List ℕ} → P → Copied w → {p r : List ℕ} → Turns P p w w r
kept {P} {w} k a {p} {r} = record {
  turn = λ done o h. record {
    after = done;
    from = le_refl _;
    within = omega (arith, onto-length w p);
    rewrote = inl k;
    goes = a.copies done p o r;
  };
}

pub untouched : {w : List ℕ} → Copied w → {p r : List ℕ} → Turns (Unit {0}) p w w r
untouched a = kept tt a

either-rewrote : {P Q : Type 0} (k l m n : ℕ) → k ≤ l → m ≤ n → P ⊎ (k < m) → Q ⊎ (l < n) → (P × Q) ⊎ (k < n)
either-rewrote k l m n h g (inl a) (inl b) = inl (a, b)
either-rewrote k l m n h g (inl a) (inr f) = inr (omega arith)
either-rewrote k l m n h g (inr e) b = inr (omega arith)

infixr 20 ◌then◌
pub ◌then◌ : {P Q : Type 0} {p s w s' w' r : List ℕ} → Turns P p s w (s' ++ r) → Turns Q (reverse_aux s p) s' w' r → Turns (P × Q) p (s ++ s') (w ++ w') r
◌then◌ {P} {Q} {p} {s} {w} {s'} {w'} {r} a b = record {
  turn = λ done o h.
      let x : Passes P done p o s w (s' ++ r) = a.turn done o h in
      let y : Passes Q x.after (reverse_aux s p) (reverse_aux w o) s' w' r = b.turn x.after (reverse_aux w o) x.within in
      let e = x.from in let f = y.from in
      record {
        after = y.after;
        from = omega arith;
        within = rw (reverse_aux-append s s' p) y.within;
        rewrote = either-rewrote (length p) (length (reverse_aux s p)) x.after.rewritten y.after.rewritten (omega (arith, onto-length s p)) f x.rewrote y.rewrote;
        goes = rw (append_assoc s s' r, reverse_aux-append s s' p, reverse_aux-append w w' o) (x.goes ∙ y.goes);
      };
}

-- ---- what may stand before a factor: an edge outside scripts, and going back over blanks no slash
pub record Ahead (p : List ℕ) : Type 0 where
  pub edge : Edge p
  pub outside : is_inside_subscript_context 0 p ≡ false
  pub no_slash : is "/" (head (trim_start p)) ≡ false

pub edge-unmarked : {p : List ℕ} → Edge p → script_sign (head p) ≡ false
edge-unmarked start = refl
edge-unmarked after-space = refl
edge-unmarked (after-paren h) = refl
edge-unmarked after-brace = refl

edge-clear : {p : List ℕ} → Edge p → script_opener p ≡ false
edge-clear start = refl
edge-clear after-space = refl
edge-clear (after-paren h) = h
edge-clear after-brace = refl

pub ahead-paren : {p : List ℕ} → script_sign (head p) ≡ false → script_opener p ≡ false → is_inside_subscript_context 0 p ≡ false → Ahead (code "(" ∷ p)
unfolding is_inside_subscript_context
ahead-paren unmarked clear outside = record { edge = after-paren unmarked; outside = rw (clear, is_inside_subscript_context) outside; no_slash = refl }

pub ahead_within : {p : List ℕ} → Ahead p → Ahead (code "(" ∷ p)
ahead_within a = ahead-paren (edge-unmarked a.edge) (edge-clear a.edge) a.outside

pub ahead-brace : {p : List ℕ} → is_inside_subscript_context 0 p ≡ false → Ahead (code "{" ∷ p)
unfolding is_inside_subscript_context
ahead-brace outside = record { edge = after-brace; outside = outside; no_slash = refl }

-- behind a join: what stands before it ends as a factor does
head-onto : (s p : List ℕ) → head (reverse_aux s p) ≡ last (head p) s
head-onto [] p = refl
head-onto (x ∷ s) p = head-onto s (x ∷ p)

factor-end : (q : List ℕ) → ends_factor (head q) ≡ true → is "/" (head (trim_start q)) ≡ false
factor-end [] e = refl
factor-end (x ∷ q) e =
    rw (apart ends_factor x (code " ") e refl, apart ends_factor x (code "\t") e refl, apart ends_factor x (code "\n") e refl, drop_while) (apart ends_factor x (code "/") e refl)

pub join-edge : (j : Join) (p : List ℕ) → Edge (reverse_aux (join_text j) p)
join-edge beside p = after-space
join-edge plus p = after-space
join-edge minus p = after-space

join-behind : (j : Join) (q : List ℕ) → ends_factor (head q) ≡ true → is "/" (head (trim_start (reverse_aux (join_text j) q))) ≡ false
join-behind beside q e = factor-end q e
join-behind plus q e = refl
join-behind minus q e = refl

pub ahead-join : (j : Join) {s : List ℕ} → Ends s → Nest s → {p : List ℕ} → Ahead p → Ahead (reverse_aux (join_text j) (reverse_aux s p))
ahead-join j {s} ends closed {p} a =
    record {
      edge = join-edge j (reverse_aux s p);
      outside = script-context-back (join-nest j) 0 (reverse_aux s p) ∙ script-context-back closed 0 p ∙ a.outside;
      no_slash = join-behind j (reverse_aux s p) (rw (head-onto s p) (ends.ends-closed (head p)));
    }

pub join-stop : (j : Join) (w r : List ℕ) → Stop ((join_text j ++ w) ++ r)
join-stop beside w r = at-space
join-stop plus w r = at-space
join-stop minus w r = at-space

-- ---- a slash between two operands
pass-skipped : (v : List ℕ) (done : Done) (p o r : List ℕ) → fractions_from (length v) done p o (v ++ r) ≡ fractions_from 0 done (reverse_aux v p) o r
unfolding fractions_from
pass-skipped [] done p o r = refl
pass-skipped (x ∷ v) done p o r = pass-skipped v done (x ∷ p) o r

behind-none : (left q : List ℕ) → is "/" (head q) ≡ false → behind_left left q ≡ false
behind-none left [] e = refl
behind-none left (x ∷ q) e = rw e

module _ {w c : List ℕ} (num : ReadAsOperand w c) (closed : Nest w) {p : List ℕ} (a : Ahead p) where
  pub outside-here : is_inside_subscript_context 0 (reverse_aux w p) ≡ false
  outside-here = script-context-back closed 0 p ∙ a.outside

  -- the numerator reaches into the text that was rewritten last: the slash is left
  leaves : (done : Done) (o s : List ℕ) → length p < done.rewritten
      → fractions_from 0 done (reverse_aux w p) o (code "/" ∷ s) ≡ fractions_from 0 (leaving done (reverse_aux w p)) (code "/" ∷ reverse_aux w p) (code "/" ∷ o) s
  unfolding fractions_from slash
  leaves done o s h =
      rw (outside-here, fractions_from, slash, num.solid-before p, num.before p a.edge, with_numerator, lt-ltb (length p) done.rewritten h)

  -- it does not: the slash becomes a fraction
  module _ {v d : List ℕ} (den : ReadAsOperand v d) where
    abbrev rewriting_to : Done → Done
    rewriting_to done = record { rewritten = suc (length (reverse_aux w p)) + length v; left = done.left }

    stays_out : (done : Done) → done.rewritten ≤ length p → is_left done p ≡ false
    stays_out done h = rw (le-ltb (length p) done.rewritten h) (behind-none done.left (trim_start p) a.no_slash)

    converts : (done : Done) (o r : List ℕ) → Stop r → done.rewritten ≤ length p
        → slash done (reverse_aux w p) (reverse_aux w o) (v ++ r) ≡ some (record { skip = length v; written = reverse_aux (frac c d) o; done = rewriting_to done })
    unfolding slash
    converts done o r f h =
        let found : find_fraction_part_after (trim_start (v ++ r)) ≡ some r = rw (den.solid-after r) (den.after r f) in
        rw (outside-here, slash, num.solid-before p, num.before p a.edge, with_numerator, stays_out done h, den.solid-after r, den.unbarred r f)
        (ap some
        (ap (with_denominator done (reverse_aux w p) (reverse_aux w o) (v ++ r) p) found
        ∙ rw (
          num.solid-before p,
          den.solid-after r,
          until-onto w p,
          reverse-reverse w,
          until-append v r,
          num.content,
          den.content,
          append-minus v r,
          onto-minus w p,
          drop-onto w o,
        )))

    pass-fraction : (done : Done) (o r : List ℕ) → Stop r → done.rewritten ≤ length p
        → fractions_from 0 done (reverse_aux w p) (reverse_aux w o) (code "/" ∷ (v ++ r)) ≡ fractions_from 0 (rewriting_to done) (reverse_aux v (code "/" ∷ reverse_aux w p)) (reverse_aux (frac c d) o) r
    unfolding fractions_from
    pass-fraction done o r f h = rw (converts done o r f h, fractions_from) (pass-skipped v (rewriting_to done) (code "/" ∷ reverse_aux w p) (reverse_aux (frac c d) o) r)

    -- the whole of it, the numerator having no slash of its own
    pub turn-fraction : {P : Type 0} → Copied w → {r : List ℕ} → Stop r → Turns P p (slashed w v) (frac c d) r
    turn-fraction numerator {r} f = record {
      turn = λ done o h. record {
        after = rewriting_to done;
        from = omega (arith, onto-length w p);
        within = rw (reverse_aux-append w (code "/" ∷ v) p) (omega (arith, onto-length v (code "/" ∷ reverse_aux w p)));
        rewrote = inr (omega (arith, onto-length w p));
        goes = rw (append_assoc w (code "/" ∷ v) r, reverse_aux-append w (code "/" ∷ v) p) (numerator.copies done p o (code "/" ∷ (v ++ r)) ∙ pass-fraction done o r f h);
      };
    }

  -- the whole of a fraction that is left: the round has rewritten something of its numerator
  pub turn-left : {P Q S : Type 0} {w' v v' r : List ℕ} → Turns P p w w' (code "/" ∷ (v ++ r)) → (P → ⊥) → Turns Q (code "/" ∷ reverse_aux w p) v v' r → Turns S p (slashed w v) (slashed w' v') r
  turn-left {P} {Q} {S} {w'} {v} {v'} {r} numerator rewritten denominator = record {
    turn = λ done o h.
        let x : Passes P done p o w w' (code "/" ∷ (v ++ r)) = numerator.turn done o h in
        let inside : length p < x.after.rewritten = elim x.rewrote [ inl e ↦ absurd (rewritten e) | inr e ↦ e ] in
        let q : Done = leaving x.after (reverse_aux w p) in
        let within = x.within in
        let y : Passes Q q (code "/" ∷ reverse_aux w p) (code "/" ∷ reverse_aux w' o) v v' r = denominator.turn q (code "/" ∷ reverse_aux w' o) (omega arith) in
        let e = x.from in let f = y.from in
        record {
          after = y.after;
          from = omega arith;
          within = rw (reverse_aux-append w (code "/" ∷ v) p) y.within;
          rewrote = inr (omega arith);
          goes = rw (append_assoc w (code "/" ∷ v) r, reverse_aux-append w (code "/" ∷ v) p, reverse_aux-append w' (code "/" ∷ v') o)
              (x.goes ∙ leaves x.after (reverse_aux w' o) (v ++ r) inside ∙ y.goes);
        };
  }
