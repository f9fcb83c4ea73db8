-- One step of each search to the left, where the symbols that are left, nearest first, are x ∷ q. Assumes nothing.
use Rattle.std.specs.Prelude.{◌≡◌, Bool, List, [], ◌∷◌, ℕ, suc, ◌+◌, ◌-◌, ◌≤◌, length, get_or}
use Rattle.std.proofs.Math.Path.{refl, ap}
use Rattle.std.proofs.Common.{sym, ap₂, ◌∙◌, arith, ne_eqb}
use Rattle.std.proofs.Math.Bool.{true, false}
use Rattle.std.proofs.Math.Option.{none, some}
use Prim.Native.Char.{code}
use Rattle.spec.specs.Symbols.{is, head}
use Rattle.spec.specs.Closing.{side_of, depth_after, close, or_end}
use Rattle.spec.specs.Fractions.{in_operand, name_symbol, name_before, word_before, with_name, find_fraction_part_before}
use Rattle.text_symbols.specs.Places.{before, before-step, before-next, before-none, head-before}
use Rattle.fraction_operands.specs.Groups.{group-closing}

-- a group in a name is a closing search
group-name : (d : ℕ) (s : List ℕ) → name_before (suc d) s ≡ name_before 0 (or_end (close (code "}") (code "{") d s))
unfolding name_before
group-name = group-closing (code "}") (code "{") name_before (λ d. refl) (λ d x s. refl)

module _ {x : ℕ} {p q : List ℕ} (here : p ≡ x ∷ q) where
  pub name-stop : name_symbol x ≡ false → name_before 0 p ≡ p
  unfolding name_before
  name-stop t = ap (name_before 0) here ∙ rw (t, name_before, here)

  pub name-more : name_symbol x ≡ true → is "}" x ≡ false → name_before 0 p ≡ name_before 0 q
  unfolding name_before
  name-more t u = ap (name_before 0) here ∙ rw (t, name_before) (ap (λ d. name_before d q) (rw u (go (is "{" x))))
    where
      go : (b : Bool) → depth_after (side_of false b) 0 ≡ 0
      go true = refl
      go false = refl

  pub name-group : name_symbol x ≡ true → is "}" x ≡ true → name_before 0 p ≡ name_before 0 (or_end (close (code "}") (code "{") 0 q))
  unfolding name_before
  name-group t u = ap (name_before 0) here ∙ rw (t, name_before) (ap (λ d. name_before d q) (rw u) ∙ group-name 0 q)

  pub word-before-more : (y : ℕ) → in_operand y x (head q) ≡ true → word_before y p ≡ word_before x q
  unfolding word_before
  word-before-more y t = ap (word_before y) here ∙ rw (t, word_before)

  pub word-before-stop : (y : ℕ) → in_operand y x (head q) ≡ false → word_before y p ≡ p
  unfolding word_before
  word-before-stop y t = ap (word_before y) here ∙ rw (t, word_before, here)

  -- ---- the numerator, by its last symbol: a bracket x whose other one is o, or another
  module _ {o : ℕ} where
    pub before-brace : x ≡ code "}" → o ≡ code "{" → find_fraction_part_before p ≡ with_name (close x o 0 q)
    unfolding find_fraction_part_before
    before-brace e f =
        let t : is "}" x ≡ true = ap (is "}") e in
        ap find_fraction_part_before here ∙ rw (t, find_fraction_part_before) (ap₂ (λ b d. with_name (close b d 0 q)) (sym e) (sym f))

    pub before-paren : x ≡ code ")" → o ≡ code "(" → find_fraction_part_before p ≡ with_name (close x o 0 q)
    unfolding find_fraction_part_before
    before-paren e f =
        let t : is "}" x ≡ false = ap (is "}") e in let u : is ")" x ≡ true = ap (is ")") e in
        ap find_fraction_part_before here ∙ rw (t, u, find_fraction_part_before) (ap₂ (λ b d. with_name (close b d 0 q)) (sym e) (sym f))

    pub before-bracket : x ≡ code "]" → o ≡ code "[" → find_fraction_part_before p ≡ with_name (close x o 0 q)
    unfolding find_fraction_part_before
    before-bracket e f =
        let t : is "}" x ≡ false = ap (is "}") e in let u : is ")" x ≡ false = ap (is ")") e in let v : is "]" x ≡ true = ap (is "]") e in
        ap find_fraction_part_before here ∙ rw (t, u, v, find_fraction_part_before) (ap₂ (λ b d. with_name (close b d 0 q)) (sym e) (sym f))

  pub before-word : (x ≡ code "}" → ⊥) → (x ≡ code ")" → ⊥) → (x ≡ code "]" → ⊥) → find_fraction_part_before p ≡ some (word_before x q)
  unfolding find_fraction_part_before
  before-word e f g =
      let t = ne_eqb x (code "}") e in let u = ne_eqb x (code ")") f in let v = ne_eqb x (code "]") g in
      ap find_fraction_part_before here ∙ rw (t, u, v, find_fraction_part_before)

-- behind the last symbol
pub last-read : (s : List ℕ) (end last : ℕ) → (1 ≤ end) × (last ≡ end - 1) → end ≤ length s → before s end ≡ get_or s last 0 ∷ before s last
last-read s end last e h = rw e.1 (before-step s end e.0 h)

pub before-nothing : {p : List ℕ} → p ≡ [] → find_fraction_part_before p ≡ none
unfolding find_fraction_part_before
before-nothing e = ap find_fraction_part_before e

-- ---- a step from place i to place j before it, by the symbols that were read
module _
    (s : List ℕ) (i j : ℕ) (next : j + 1 ≡ i) (within : i ≤ length s) {b : ℕ} (read : b ≡ get_or (0 ∷ s) j 0)
    {t : Bool} (test : t ≡ in_operand (get_or s (j + 1) 0) (get_or s j 0) b)
  where
    here : before s i ≡ get_or s j 0 ∷ before s j
    here = ap (before s) (sym next) ∙ before-next s j (omega arith)

    tested : in_operand (get_or s i 0) (get_or s j 0) (head (before s j)) ≡ t
    tested =
        ap (λ k. in_operand (get_or s k 0) (get_or s j 0) (head (before s j))) (sym next)
        ∙ ap (in_operand (get_or s (j + 1) 0) (get_or s j 0)) (head-before s j (omega arith) ∙ sym read) ∙ sym test

    pub word-before-past : t ≡ true → word_before (get_or s i 0) (before s i) ≡ word_before (get_or s j 0) (before s j)
    word-before-past e = word-before-more here (get_or s i 0) (tested ∙ e)

    pub word-before-here : t ≡ false → word_before (get_or s i 0) (before s i) ≡ before s i
    word-before-here e = word-before-stop here (get_or s i 0) (tested ∙ e)

-- at the start
pub word-before-none : (s : List ℕ) (i x : ℕ) → i ≤ 0 → word_before x (before s i) ≡ []
unfolding word_before
word-before-none s i x h = ap (word_before x) (before-none s i h)

pub name-none : (s : List ℕ) (i : ℕ) → i ≤ 0 → name_before 0 (before s i) ≡ []
unfolding name_before
name-none s i h = ap (name_before 0) (before-none s i h)
