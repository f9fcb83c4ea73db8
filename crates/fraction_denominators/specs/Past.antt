-- One step of each search past a piece of a denominator: by the first symbol that is left, which is 0 at the end. Assumes nothing.
use Rattle.std.specs.Prelude.{◌≡◌, refl, Bool, true, false, List, [], ◌∷◌, ℕ, suc, ◌+◌, ◌≤◌, ◌<◌, eqb, length, get_or, drop}
use Rattle.std.proofs.Common.{sym, ◌∙◌, eq-eqb, ne_eqb}
use Rattle.std.proofs.Math.Path.{ap}
use Prim.Native.Char.{code}
use Rattle.spec.specs.Symbols.{is, head, past}
use Rattle.spec.specs.Closing.{close, or_end}
use Rattle.spec.specs.Fractions.{in_operand, word_after, braces}
use Rattle.spec.specs.Laws.Symbols.{drop-step, head-drop, past-drop}
use Rattle.text_symbols.specs.Places.{drop-none, AheadTo}
use Rattle.fraction_operands.specs.Groups.{group-closing}

-- ---- a word: a step from place i, by the symbols that were read
module _ (s : List ℕ) (i : ℕ) (more : i < length s) {b : ℕ} (read : b ≡ get_or s (i + 1) 0) (y : ℕ) {t : Bool} (test : t ≡ in_operand y (get_or s i 0) b) where
  stepped : word_after y (drop i s) ≡ elim t [ true ↦ word_after (get_or s i 0) (drop (i + 1) s) | false ↦ get_or s i 0 ∷ drop (i + 1) s ]
  unfolding word_after
  stepped =
      let tested : in_operand y (get_or s i 0) (head (drop (i + 1) s)) ≡ t = ap (in_operand y (get_or s i 0)) (head-drop s (i + 1) ∙ sym read) ∙ sym test in
      ap (word_after y) (drop-step s i more) ∙ rw (tested, word_after)

  pub word-after-more : t ≡ true → word_after y (drop i s) ≡ word_after (get_or s i 0) (drop (i + 1) s)
  word-after-more e = stepped ∙ rw e

  pub word-after-stop : t ≡ false → word_after y (drop i s) ≡ drop i s
  word-after-stop e = stepped ∙ rw e (sym (drop-step s i more))

pub word-after-none : (s : List ℕ) (i y : ℕ) → length s ≤ i → word_after y (drop i s) ≡ []
unfolding word_after
word-after-none s i y h = ap (word_after y) (drop-none s i h)

-- ---- the symbol b that was read at a place is the sign k, or another
module _ (s : List ℕ) (start k : ℕ) {b : ℕ} (read : b ≡ get_or s start 0) where
  pub sign-is : b ≡ k → eqb (head (drop start s)) k ≡ true
  sign-is same = eq-eqb (head (drop start s)) k (head-drop s start ∙ sym read ∙ same)

  pub sign-not : (b ≡ k → ⊥) → eqb (head (drop start s)) k ≡ false
  sign-not other = ne_eqb (head (drop start s)) k (λ e. other (read ∙ sym (head-drop s start) ∙ e))

-- ---- groups in braces, one after the other: a group is a closing search
group-braces : (d : ℕ) (s : List ℕ) → braces (suc d) s ≡ braces 0 (or_end (close (code "{") (code "}") d s))
unfolding braces
group-braces = group-closing (code "{") (code "}") braces (λ d. refl) (λ d x s. refl)

braces-group : (l : List ℕ) → is "{" (head l) ≡ true → braces 0 l ≡ braces 0 (or_end (close (code "{") (code "}") 0 (past l)))
unfolding braces close
braces-group [] e = refl
braces-group (x ∷ s) e = rw (e, braces) (group-braces 0 s)

braces-none : (l : List ℕ) → is "{" (head l) ≡ false → braces 0 l ≡ l
unfolding braces
braces-none [] e = refl
braces-none (x ∷ s) e = rw (e, braces)

module _ (s : List ℕ) (i : ℕ) {b : ℕ} (read : b ≡ get_or s i 0) where
  pub braces-more : b ≡ code "{" → {r : ℕ} → AheadTo s (i + 1) r (or_end (close (code "{") (code "}") 0 (drop (i + 1) s))) → braces 0 (drop i s) ≡ braces 0 (drop r s)
  braces-more same group =
      braces-group (drop i s) (sign-is s i (code "{") read same)
      ∙ ap (λ l. braces 0 (or_end (close (code "{") (code "}") 0 l))) (past-drop s i) ∙ ap (braces 0) (sym group.left)

  pub braces-stop : (b ≡ code "{" → ⊥) → braces 0 (drop i s) ≡ drop i s
  braces-stop other = braces-none (drop i s) (sign-not s i (code "{") read other)
