-- Marks in a text. A mark stands for a block. Assumes nothing.
--     is_mark       one of the two marks
--     count        how often a symbol stands in a text
--     block_at      the block of a number
use Rattle.std.specs.Prelude.{◌≡◌, refl, Bool, true, false, cond, ◌||◌, List, [], ◌∷◌, ◌++◌, ℕ, zero, suc, eqb}
use Prim.Native.Char.{code}
use Rattle.std.proofs.Common.{arith, eqb-true}
use Rattle.spec.specs.Symbols.{bytes, any, text_mark, roman_mark}
use Rattle.spec.specs.Laws.Booleans.{or-neither}

abbrev pub backslash : ℕ
backslash = code "\\"

abbrev pub is_mark : ℕ → Bool
is_mark b = eqb b text_mark || eqb b roman_mark

abbrev pub has_mark : List ℕ → Bool
has_mark s = any is_mark s

unfoldable pub count : ℕ → List ℕ → ℕ
count m [] = 0
count m (b ∷ s) = cond (eqb b m) (suc (count m s)) (count m s)

-- from the list's length on a block is a lone backslash, so that every number has a block that begins with one
unfoldable pub block_at : List (List ℕ) → ℕ → List ℕ
block_at [] k = bytes "\\"
block_at (b ∷ bs) zero = b
block_at (b ∷ bs) (suc k) = block_at bs k

unfoldable pub concat : List (List ℕ) → List ℕ
concat [] = []
concat (b ∷ bs) = b ++ concat bs

-- ---- tests
-- no symbol is both marks
pub not-both : {A : Type 0} (x : ℕ) → eqb x text_mark ≡ true → eqb x roman_mark ≡ true → A
not-both x e f = let p = eqb-true x text_mark e in let q = eqb-true x roman_mark f in absurd (omega arith)

pub not-text-mark : (b : ℕ) → is_mark b ≡ false → eqb b text_mark ≡ false
not-text-mark b e = (or-neither (eqb b text_mark) (eqb b roman_mark) e).0

pub has-mark-append : (x y : List ℕ) → has_mark (x ++ y) ≡ has_mark x || has_mark y
has-mark-append [] y = refl
has-mark-append (b ∷ x) y = go (is_mark b) (has-mark-append x y)
  where
    go : (m : Bool) → has_mark (x ++ y) ≡ has_mark x || has_mark y → m || has_mark (x ++ y) ≡ m || has_mark x || has_mark y
    go true e = refl
    go false e = e
