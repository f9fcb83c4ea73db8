-- Marks with numbers, those of their blocks, and something for each mark by its number. Assumes nothing.
--     order        the numbers of the marks: those of `\text` blocks count from a, those of `\mathrm` blocks from r
--     fill         something for each mark, by its number: its placeholder, or its block
use Rattle.std.specs.Prelude.{◌≡◌, refl, Bool, true, false, cond, ◌&&◌, ◌||◌, List, [], ◌∷◌, ◌++◌, ℕ, suc, ◌<◌, eqb, ltb}
use Rattle.std.proofs.Common.{ap, arith, eqb-true}
use Rattle.spec.specs.Symbols.{text_mark, roman_mark}
use Rattle.spec.specs.Laws.Booleans.{or-neither}
use Rattle.held_laws.specs.Marks.{is_mark, has_mark}

-- ---- a list that is too short goes on with 0
abbrev pub first : List ℕ → ℕ
first [] = 0
first (k ∷ ks) = k

abbrev pub rest_numbers : List ℕ → List ℕ
rest_numbers [] = []
rest_numbers (k ∷ ks) = ks

unfoldable pub order : ℕ → ℕ → List ℕ → List ℕ
order a r [] = []
order a r (b ∷ s) = cond (eqb b text_mark) (a ∷ order (suc a) r s) (cond (eqb b roman_mark) (r ∷ order a (suc r) s) (order a r s))

unfoldable pub fill : (ℕ → List ℕ) → List ℕ → List ℕ → List ℕ
fill f ks [] = []
fill f ks (b ∷ s) = cond (is_mark b) (f (first ks) ++ fill f (rest_numbers ks) s) (b ∷ fill f ks s)

-- each mark has a number below n
unfoldable pub numbers_below : ℕ → List ℕ → List ℕ → Bool
numbers_below n ks [] = true
numbers_below n ks (b ∷ s) = cond (is_mark b) (ltb (first ks) n && numbers_below n (rest_numbers ks) s) (numbers_below n ks s)

-- a mark has the number k
unfoldable pub occurs : ℕ → List ℕ → List ℕ → Bool
occurs k ks [] = false
occurs k ks (b ∷ s) = cond (is_mark b) (eqb (first ks) k || occurs k (rest_numbers ks) s) (occurs k ks s)

-- ---- tests
pub mark-small : (b : ℕ) → is_mark b ≡ true → b < 48
mark-small b e = go (eqb b text_mark) refl e
  where
    go : (t : Bool) → eqb b text_mark ≡ t → t || eqb b roman_mark ≡ true → b < 48
    go true q e = let one = eqb-true b text_mark q in omega arith
    go false q e = let two = eqb-true b roman_mark e in omega arith

pub fill-unmarked : (f : ℕ → List ℕ) (ks s : List ℕ) → has_mark s ≡ false → fill f ks s ≡ s
unfolding fill
fill-unmarked f ks [] e = refl
fill-unmarked f ks (b ∷ s) e = let parts = or-neither (is_mark b) (has_mark s) e in rw parts.0 (ap (λ l. b ∷ l) (fill-unmarked f ks s parts.1))
