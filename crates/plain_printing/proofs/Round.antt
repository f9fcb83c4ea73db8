-- One round takes a plain tree's text from what n rounds have written to what n + 1 write.
--     Rounds         it does so with a tree, between what may stand before and behind it
--     round-plain    the theorem of the round
use Rattle.std.specs.Prelude.{◌≡◌, Bool, true, cond, eqb, ltb}
use Rattle.std.proofs.Math.Path.{refl}
use Rattle.std.proofs.Common.{sym, ap, ◌∙◌, true≢false, le_refl, arith, ltb-true, ltb-false}
use Rattle.std.proofs.Math.Bool.{false}
use mathlib.Core.List.{List, [], ◌∷◌, append-nil, reverse_aux, reverse-reverse}
use Rattle.std.proofs.Math.Option.{some}
use Prim.Native.Nat.{ℕ, zero, suc, pred, ◌≤◌, ◌<◌, max}
use Prim.Native.Char.{code}
use Rattle.spec.specs.Symbols.{bytes}
use Rattle.spec.specs.Closing.{side, neither}
use Rattle.spec.specs.Fractions.{is_inside_subscript_context, nothing_done, frac, fractions_from, convert_regular_fractions}
use Rattle.spec.specs.Grammar.{Atom}
use Rattle.plain_printing.specs.Tree.{Tree, TreeScript, Join, atom, fraction, group, row, bare, symbol, inner, atom_writing, operand, slashed, lone, height, height_script, braced_style, unstacked, write, write_script}
use Rattle.plain_printing.specs.Nest.{Nest}
use Rattle.plain_printing.proofs.Alphabet.{tree-ends}
use Rattle.plain_printing.proofs.Written.{atom-nest, nest, nest-script, operand-nest}
use Rattle.plain_printing.proofs.Operand.{start, Stop, end, at-paren, at-brace, script-context-back, ReadAsOperand, group-operand, atom-operand, atom-word, Word}
use Rattle.plain_printing.proofs.Stacked.{run, from-height, atom-copied, join-copied, operand-copied, symbol-copied, tree-copied}
use Rattle.plain_printing.proofs.Turns.{Turns, weaken, kept, untouched, ◌then◌, Ahead, ahead-paren, ahead_within, ahead-brace, ahead-join, join-stop, outside-here, turn-fraction, turn-left}

-- ---- operands of trees
data Lone : Tree → Type 0 where
  lone-atom : (a : Atom) → Lone (atom a bare bare)

lone_is : (t : Tree) → lone t ≡ true → Lone t
lone_is (atom a bare bare) h = lone-atom a
lone_is (atom a bare (symbol c e)) h = absurd (true≢false (sym h))
lone_is (atom a bare (inner t)) h = absurd (true≢false (sym h))
lone_is (atom a (symbol c e) h') h = absurd (true≢false (sym h))
lone_is (atom a (inner t) h') h = absurd (true≢false (sym h))
lone_is (fraction t u) h = absurd (true≢false (sym h))
lone_is (group t) h = absurd (true≢false (sym h))
lone_is (row t j u) h = absurd (true≢false (sym h))

lone-word : (n : ℕ) {t : Tree} → Lone t → Word (write braced_style n t)
unfolding write write_script
lone-word n (lone-atom a) = rw (append-nil (atom_writing 30 a)) (atom-word a)

lone-flat : (n : ℕ) {t : Tree} → Lone t → height t ≤ n
lone-flat n (lone-atom a) = omega arith

read-operand : (b : Bool) (s : List ℕ) → Nest s → (b ≡ true → Word s) → ReadAsOperand (operand b s) s
read-operand true s m w = atom-operand (w refl)
read-operand false s m w = group-operand s m

as-operand : (n : ℕ) (t : Tree) → ReadAsOperand (operand (lone t) (write braced_style n t)) (write braced_style n t)
as-operand n t = read-operand (lone t) (write braced_style n t) (nest braced_style n t) (λ e. lone-word n (lone_is t e))

closed-operand : (n : ℕ) (t : Tree) → Nest (operand (lone t) (write braced_style n t))
closed-operand n t = operand-nest (lone t) (nest braced_style n t)

-- ---- the round on a tree
abbrev Rounds : ℕ → Tree → Type 0
Rounds n t = (p r : List ℕ) → Ahead p → Stop r → Turns (height t ≤ n) p (write braced_style n t) (write braced_style (suc n) t) r

-- a script asks less of its surroundings
abbrev RoundsScript : ℕ → ℕ → TreeScript → Type 0
RoundsScript n m c = (p r : List ℕ) → is_inside_subscript_context 0 p ≡ false
    → Turns (height_script c ≤ n) p (write_script braced_style n (m ∷ []) true c) (write_script braced_style (suc n) (m ∷ []) true c) r

in-parens : {P : Type 0} {p s w r : List ℕ} → Turns P (code "(" ∷ p) s w (code ")" ∷ r) → Turns P p (operand false s) (operand false w) r
in-parens a = weaken (λ k. k.1.0) (untouched (run (bytes "(") refl) then a then untouched (run (bytes ")") refl))

-- a tree whose fractions are all stacked stays as it is
tree-kept : (n : ℕ) (t : Tree) → height t ≤ n → {p r : List ℕ} → Turns (height t ≤ n) p (write braced_style n t) (write braced_style (suc n) t) r
tree-kept n t d = rw (from-height braced_style (suc n) n t (omega arith) d) (kept d (tree-copied n t d))

round-operand : (n : ℕ) (t : Tree) → Rounds n t → (p r : List ℕ) → Ahead (code "(" ∷ p)
    → Turns (height t ≤ n) p (operand (lone t) (write braced_style n t)) (operand (lone t) (write braced_style (suc n) t)) r
round-operand n t rounds p r a = go (lone t) refl
  where
    go : (b : Bool) → lone t ≡ b → Turns (height t ≤ n) p (operand b (write braced_style n t)) (operand b (write braced_style (suc n) t)) r
    go true e = tree-kept n t (lone-flat n (lone_is t e))
    go false e = in-parens (rounds (code "(" ∷ p) (code ")" ∷ r) a at-paren)

module _ (n : ℕ) (t u : Tree) {p r : List ℕ} (a : Ahead p) (f : Stop r) where
  abbrev with_slash : ℕ → List ℕ
  with_slash k = slashed (operand (lone t) (write braced_style k t)) (operand (lone u) (write braced_style k u))

  abbrev Turned : List ℕ → List ℕ → Type 0
  Turned s w = Turns (suc (max (height t) (height u)) ≤ n) p s w r

  -- a fraction whose numerator holds a slash is left
  round-left : n < height t → Rounds n t → Rounds n u → Turned (with_slash n) (with_slash (suc n))
  unfolding is_inside_subscript_context
  round-left h numerator denominator =
      let q : List ℕ = code "/" ∷ reverse_aux (operand (lone t) (write braced_style n t)) p in
      let outside : is_inside_subscript_context 0 q ≡ false = outside-here (as-operand n t) (closed-operand n t) a in
      turn-left (as-operand n t) (closed-operand n t) a (round-operand n t numerator p _ (ahead_within a)) (λ d. omega arith) (round-operand n u denominator q r (ahead-paren refl refl outside))

  -- one whose numerator holds none is stacked
  round-stacks : height t ≤ n → Turned (with_slash n) (frac (write braced_style n t) (write braced_style n u))
  round-stacks h = turn-fraction (as-operand n t) (closed-operand n t) a (as-operand n u) (operand-copied (lone t) (tree-copied n t h)) f

  -- one that is stacked: only its denominator may still hold a slash
  round-stacked : (m : ℕ) → n ≡ suc m → height t ≤ m → Rounds m u → Turned (frac (write braced_style m t) (write braced_style m u)) (frac (write braced_style n t) (write braced_style n u))
  unfolding is_inside_subscript_context
  round-stacked m e h denominator =
      rw (e, from-height braced_style (suc m) m t (omega arith) h)
      (weaken (λ k. let d = k.1.1.1.0 in omega arith)
      (untouched (run (bytes "\\frac{") refl) then untouched (tree-copied m t h) then untouched (run (bytes "}{") refl)
      then denominator _ (code "}" ∷ r) (ahead-brace (script-context-back (nest braced_style m t) 0 (reverse_aux (bytes "\\frac{") p) ∙ a.outside)) at-brace
      then untouched (run (bytes "}") refl)))

-- before the round the fraction is stacked or not, and so it is behind it
round-fraction : (n : ℕ) (t u : Tree) → Rounds n t → Rounds n u → Rounds (pred n) u → Rounds n (fraction t u)
unfolding write
round-fraction n t u numerator denominator earlier p r a f = go (unstacked n t) refl (ltb n (height t)) refl
  where
    later : unstacked n t ≡ false → (height t ≤ pred n) × (n ≡ suc (pred n))
    later = below n
      where
        below : (k : ℕ) → unstacked k t ≡ false → (height t ≤ pred k) × (k ≡ suc (pred k))
        below zero e = absurd (true≢false e)
        below (suc k) e = (ltb-false k (height t) e, refl)

    go : (b : Bool) → unstacked n t ≡ b → (c : Bool) → ltb n (height t) ≡ c
        → Turns (height (fraction t u) ≤ n) p (cond b (with_slash n t u a f n) (frac (write braced_style (pred n) t) (write braced_style (pred n) u)))
        (cond c (with_slash n t u a f (suc n)) (frac (write braced_style n t) (write braced_style n u))) r
    go true d true e = round-left n t u a f (ltb-true n (height t) e) numerator denominator
    go true d false e = round-stacks n t u a f (ltb-false n (height t) e)
    go false d true e = let h = ltb-true n (height t) e in let k = later d in absurd (omega (arith, k.0, k.1))
    go false d false e = let k = later d in round-stacked n t u a f (pred n) k.1 k.0 earlier

round-atom : (n : ℕ) (a : Atom) (l h : TreeScript) → RoundsScript n (code "_") l → RoundsScript n (code "^") h → Rounds n (atom a l h)
unfolding write
round-atom n b l h low high p r a f =
    let outside : is_inside_subscript_context 0 (reverse_aux (atom_writing 30 b) p) ≡ false = script-context-back (atom-nest 30 b) 0 p ∙ a.outside in
    weaken (λ k. let d = k.1.0 in let e = k.1.1 in omega arith)
    (untouched (atom-copied b) then low _ _ outside then high _ r (script-context-back (nest-script braced_style n (bytes "_") refl true l) 0 _ ∙ outside))

round-row : (n : ℕ) (t : Tree) (j : Join) (u : Tree) → Rounds n t → Rounds n u → Rounds n (row t j u)
unfolding write
round-row n t j u left right p r a f =
    weaken (λ k. let d = k.0 in let e = k.1.1 in omega arith)
    (left p _ a (join-stop j (write braced_style n u) r) then untouched (join-copied j) then right _ r (ahead-join j (tree-ends braced_style n t) (nest braced_style n t) a) f)

round-inner : (n m : ℕ) (t : Tree) → eqb m (code "/") ≡ false → side (code ")") (code "(") m ≡ neither → Rounds n t → RoundsScript n m (inner t)
unfolding write_script is_inside_subscript_context
round-inner n m t b c rounds p r outside =
    weaken (λ k. k.1.0)
    (untouched (run (m ∷ code "{" ∷ []) (rw b)) then rounds _ (code "}" ∷ r) (ahead-brace (rw (c, is_inside_subscript_context) outside)) at-brace then untouched (run (bytes "}") refl))

mutual
  unfolding write write_script

  round-tree : (n : ℕ) (t : Tree) → Rounds n t
  round-tree n (atom a l h) = round-atom n a l h (round-script n (code "_") refl refl l) (round-script n (code "^") refl refl h)
  round-tree n (fraction t u) = round-fraction n t u (round-tree n t) (round-tree n u) (round-tree (pred n) u)
  round-tree n (group t) = λ p r a f. in-parens (round-tree n t (code "(" ∷ p) (code ")" ∷ r) (ahead_within a) at-paren)
  round-tree n (row t j u) = round-row n t j u (round-tree n t) (round-tree n u)

  round-script : (n m : ℕ) → eqb m (code "/") ≡ false → side (code ")") (code "(") m ≡ neither → (c : TreeScript) → RoundsScript n m c
  round-script n m a b bare = λ p r outside. kept (omega arith) (run [] refl)
  round-script n m a b (symbol c e) = λ p r outside. kept (omega arith) (symbol-copied m c a e)
  round-script n m a b (inner t) = round-inner n m t a b (round-tree n t)

-- the theorem of the round
pub round-plain : (n : ℕ) (t : Tree) → convert_regular_fractions (write braced_style n t) ≡ some (write braced_style (suc n) t)
unfolding convert_regular_fractions fractions_from
round-plain n t =
    let x = (round-tree n t [] [] (record { edge = start; outside = refl; no_slash = refl }) end).turn nothing_done [] (le_refl 0) in
    ap (fractions_from 0 nothing_done [] []) (sym (append-nil (write braced_style n t))) ∙ x.goes ∙ ap some (reverse-reverse (write braced_style (suc n) t))
