-- The Rust's turns for one name: each looks through the whole text again, and together they hold out what one pass does. Assumes nothing.
--     block-found, block-unclosed, block-missing    what a turn finds behind a text x that has been passed
--     Reaches       some turns come to a text in which the name has no block that closes
--     held-turns    the turns for `\text` blocks
use Rattle.std.specs.Prelude.{◌≡◌, true, false, drop}
use Rattle.std.proofs.Math.Path.{refl, ap, subst}
use Rattle.std.proofs.Common.{sym, ap₂, ◌∙◌, add-zero, add-suc, arith}
use Rattle.std.proofs.Math.Bool.{cond}
use mathlib.Core.List.{List, [], ◌∷◌, ◌++◌, append_assoc, append-nil}
use Rattle.std.proofs.Math.Option.{none, some}
use Prim.Native.Nat.{ℕ, zero, suc, ◌+◌, ◌<◌}
use Rattle.std.proofs.Math.Numerals.{add-one}
use Rattle.std.proofs.Math.ListN.{length, length-append}
use Rattle.spec.specs.Symbols.{until, starts, find, text_mark}
use Rattle.spec.specs.Laws.Symbols.{find-here, until-append}
use Rattle.spec.specs.Closing.{find_matching_brace}
use Rattle.spec.specs.Held.{Taken}
use Rattle.spec.specs.Laws.Booleans.{or-neither}
use Rattle.held_laws.specs.Marks.{backslash, is_mark, has_mark, not-text-mark, has-mark-append}
use Rattle.held_laws.specs.InFull.{returned}
use Rattle.held_laws.specs.TakeOut.{Turns, ended, unclosed, passing, holding}
use Rattle.held_placeholders.specs.Numbered.{placeholder}
use Rattle.held_placeholders.specs.Placeholders.{PlaceholderText, placed, closed_block, found_at, first_block, or_next, first_block_of, held_one, turned}
use Rattle.held_placeholders.specs.Finding.{Lacks, AbsentBefore, passed-find, absent-before-more, passed-placeholder}

-- ---- what a turn finds
module _ (name x s : List ℕ) (passed : AbsentBefore name x s) where
  pub block-missing : find name s ≡ none → first_block name (x ++ s) ≡ none
  block-missing e = ap (found_at name (x ++ s)) (passed-find name x s passed ∙ e)

module _ (name x s : List ℕ) (passed : AbsentBefore name x s) (long : 0 < length s) (met : starts name s ≡ true) where
  first-at : find name (x ++ s) ≡ some s
  first-at = passed-find name x s passed ∙ find-here name s long met

  pub block-unclosed : find_matching_brace (drop (length name) s) ≡ none → first_block name (x ++ s) ≡ none
  block-unclosed c = ap (found_at name (x ++ s)) first-at ∙ ap (closed_block (x ++ s) s) c

  pub block-found : (block behind : List ℕ) → s ≡ block ++ behind → find_matching_brace (drop (length name) s) ≡ some behind → first_block name (x ++ s) ≡ some (record { before = x; block = block; behind = behind })
  block-found block behind split c =
      ap (found_at name (x ++ s)) first-at
      ∙ ap (closed_block (x ++ s) s) c
      ∙ ap₂ (λ u v. some (record { before = u; block = v; behind = behind })) (until-append x s) (ap (λ l. until l behind) split ∙ until-append block behind)

-- ---- some turns
pub record Reaches (names : List (List ℕ)) (n : ℕ) (p q : PlaceholderText) : Type 0 where
  pub turns : (m : ℕ) → turned names (m + n) p ≡ turned names m q

pub reaches-now : (names : List (List ℕ)) (p : PlaceholderText) → Reaches names 0 p p
reaches-now names p = record { turns = λ m. ap (λ k. turned names k p) (add-zero m) }

-- one turn, and then others
pub reaches-one : {names : List (List ℕ)} {n : ℕ} {p q r : PlaceholderText} → held_one p (first_block_of names p.text) ≡ q → Reaches names n q r → Reaches names (suc n) p r
unfolding turned
reaches-one {names} {n} {p} e r = record { turns = λ m. ap (λ k. turned names k p) (add-suc m n) ∙ ap (turned names (m + n)) e ∙ r.turns m }

pub reaches_then : {names : List (List ℕ)} {n k : ℕ} {p q r : PlaceholderText} → Reaches names n p q → Reaches names k q r → Reaches names (k + n) p r
reaches_then {names} {n} {k} {p} a b =
    record {
      turns = λ m.
          (let e : m + (k + n) ≡ m + k + n = omega arith in
          ap (λ j. turned names j p) e ∙ a.turns (m + k) ∙ b.turns m);
    }

-- nothing more to hold out
turned_none : (names : List (List ℕ)) (n : ℕ) (p : PlaceholderText) → first_block_of names p.text ≡ none → turned names n p ≡ p
unfolding turned
turned_none names zero p e = refl
turned_none names (suc n) p e = ap (λ b. turned names n (held_one p b)) e ∙ turned_none names n p e

pub reaches_end : {names : List (List ℕ)} {n : ℕ} {p q : PlaceholderText} → Reaches names n p q → first_block_of names q.text ≡ none → (m : ℕ) → turned names (m + n) p ≡ q
reaches_end {names} {q = q} r e m = r.turns m ∙ turned_none names m q e

-- ---- the turns for `\text` blocks: nothing is asked of the names behind it
returned-unmarked : (f : ℕ → List ℕ) (k : ℕ) (s : List ℕ) → has_mark s ≡ false → returned text_mark f k s ≡ s
unfolding returned
returned-unmarked f k [] e = refl
returned-unmarked f k (b ∷ s) e =
    let both = or-neither (is_mark b) (has_mark s) e in
    rw (not-text-mark b both.0) (ap (λ l. b ∷ l) (returned-unmarked f k s both.1))

module _ (w : List ℕ) (lacks : Lacks text_mark (backslash ∷ w)) (others : List (List ℕ)) where
  abbrev name : List ℕ
  name = backslash ∷ w

  -- the numbered text and the blocks of one pass, behind x and behind bs
  abbrev passed_over : List ℕ → List (List ℕ) → Taken → PlaceholderText
  passed_over x bs t = placed (x ++ returned text_mark placeholder (length bs) t.left) (bs ++ t.blocks)

  pub record NameHeldOut (x s : List ℕ) (bs : List (List ℕ)) (t : Taken) : Type 0 where
    pub reaches : Reaches (name ∷ others) (length t.blocks) (placed (x ++ s) bs) (passed_over x bs t)
    pub none_left : first_block name (x ++ returned text_mark placeholder (length bs) t.left) ≡ none

  -- nothing has been held out of s
  held-nothing : (x s : List ℕ) (bs : List (List ℕ)) → has_mark s ≡ false → first_block name (x ++ s) ≡ none → NameHeldOut x s bs (record { left = s; blocks = [] })
  held-nothing x s bs free e =
      let same = returned-unmarked placeholder (length bs) s free in
      record {
        reaches = subst (Reaches (name ∷ others) 0 (placed (x ++ s) bs)) (ap₂ placed (ap (λ l. x ++ l) (sym same)) (sym (append-nil bs))) (reaches-now (name ∷ others) (placed (x ++ s) bs));
        none_left = ap (λ l. first_block name (x ++ l)) same ∙ e;
      }

  pub held-turns : {s : List ℕ} {t : Taken} → Turns name text_mark s t → (x : List ℕ) (bs : List (List ℕ)) → AbsentBefore name x s → has_mark s ≡ false → NameHeldOut x s bs t
  unfolding returned find
  held-turns ended x bs passed free = held-nothing x [] bs free (block-missing name x [] passed refl)
  held-turns (unclosed [] e f) x bs passed free = held-nothing x [] bs free (block-missing name x [] passed refl)
  held-turns (unclosed (y ∷ s) e f) x bs passed free = held-nothing x (y ∷ s) bs free (block-unclosed name x (y ∷ s) passed (omega arith) e f)
  held-turns (passing y s t e next) x bs passed free =
      let both = or-neither (is_mark y) (has_mark s) free in
      let more = held-turns next (x ++ (y ∷ [])) bs (absent-before-more name x y s passed e) both.1 in
      let unmarked = not-text-mark y both.0 in
      let here : (x ++ (y ∷ [])) ++ returned text_mark placeholder (length bs) t.left ≡ x ++ returned text_mark placeholder (length bs) (y ∷ t.left) =
      append_assoc x (y ∷ []) _ ∙ ap (λ l. x ++ l) (sym (ap (λ u. cond u (placeholder (length bs) ++ returned text_mark placeholder (suc (length bs)) t.left) (y ∷ returned text_mark placeholder (length bs) t.left)) unmarked)) in
      record {
        reaches =
            subst (λ p. Reaches (name ∷ others) (length t.blocks) p (passed_over x bs (record { left = y ∷ t.left; blocks = t.blocks }))) (ap (λ l. placed l bs) (append_assoc x (y ∷ []) s))
            (subst (λ l. Reaches (name ∷ others) (length t.blocks) (placed ((x ++ (y ∷ [])) ++ s) bs) (placed l (bs ++ t.blocks))) here more.reaches);
        none_left = ap (first_block name) (sym here) ∙ more.none_left;
      }
  held-turns (holding y block behind t e f next) x bs passed free =
      let b = y ∷ block in
      let k = length bs in
      let behind-free = (or-neither (has_mark b) (has_mark behind) (sym (has-mark-append b behind) ∙ free)).1 in
      let more = held-turns next (x ++ placeholder k) (bs ++ (b ∷ [])) (passed-placeholder w x (b ++ behind) behind k lacks passed) behind-free in
      let count : length (bs ++ (b ∷ [])) ≡ suc k = length-append bs (b ∷ []) ∙ add-one k in
      let text : (x ++ placeholder k) ++ returned text_mark placeholder (length (bs ++ (b ∷ []))) t.left ≡ x ++ (placeholder k ++ returned text_mark placeholder (suc k) t.left) =
      ap (λ n. (x ++ placeholder k) ++ returned text_mark placeholder n t.left) count ∙ append_assoc x (placeholder k) _ in
      let one : held_one (placed (x ++ (b ++ behind)) bs) (first_block_of (name ∷ others) (x ++ (b ++ behind))) ≡ placed ((x ++ placeholder k) ++ behind) (bs ++ (b ∷ [])) =
      ap (λ o. held_one (placed (x ++ (b ++ behind)) bs) (or_next o (first_block_of others (x ++ (b ++ behind))))) (block-found name x (b ++ behind) passed (omega arith) e b behind refl f) in
      record {
        reaches =
            reaches-one one
            (subst (Reaches (name ∷ others) (length t.blocks) (placed ((x ++ placeholder k) ++ behind) (bs ++ (b ∷ []))))
            (ap₂ placed text (append_assoc bs (b ∷ []) t.blocks))
            more.reaches);
        none_left = ap (first_block name) (sym text) ∙ more.none_left;
      }
