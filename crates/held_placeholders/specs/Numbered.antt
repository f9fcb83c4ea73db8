-- The Rust's put-back by number, on what is held: each mark is written as the Rust's placeholder, and block k replaces every placeholder k, for
-- k = 0, 1, 2, .. Before request A2 number 6 was given where a mark is left then. Assumes nothing.
--     placeholder     mark, number, mark
--     rust_put_back     the Rust's text after its put-back
use Rattle.std.specs.Prelude.{◌≡◌, refl, true, false, List, [], ◌∷◌, ◌++◌, ℕ, suc, ◌+◌, eqb, length}
use Rattle.spec.specs.Symbols.{text_mark, roman_mark}
use Rattle.spec.specs.Sweep.{replace}
use Rattle.spec.specs.Held.{Held, marks}
use Rattle.spec.specs.Program.{up, counted, decimal}
use Rattle.held_laws.specs.WellMade.{texts_of}

-- mark, decimal number, mark: the Rust's mark is U+FFFE in definitions and U+FFFD in words, here it is one symbol for both
unfoldable pub placeholder : ℕ → List ℕ
unfolding up counted
placeholder k = text_mark ∷ decimal k ++ (text_mark ∷ [])

-- `\text` marks are numbered from t, in the order in which they stood before any `\mathrm` block was held out; `\mathrm` marks from r
unfoldable pub numbered : List (List ℕ) → ℕ → ℕ → List ℕ → List ℕ
unfolding placeholder marks
numbered romans t r [] = []
numbered romans t r (x ∷ s) =
    elim (eqb x text_mark) [
      | true ↦ placeholder t ++ numbered romans (suc t) r s
      | false ↦ elim (eqb x roman_mark) [
        | true ↦ elim romans [ [] ↦ placeholder r ++ numbered [] t (suc r) s | b ∷ bs ↦ placeholder r ++ numbered bs (t + marks b) (suc r) s ]
        | false ↦ x ∷ numbered romans t r s
      ]
    ]

-- the `\mathrm` blocks, with the numbers of the marks in them
unfoldable pub numbered_romans : List (List ℕ) → ℕ → List ℕ → List (List ℕ)
unfolding numbered
numbered_romans romans t [] = romans
numbered_romans [] t (x ∷ s) = []
numbered_romans (b ∷ bs) t (x ∷ s) =
    elim (eqb x text_mark) [
      | true ↦ numbered_romans (b ∷ bs) (suc t) s
      | false ↦ elim (eqb x roman_mark) [
        | true ↦ numbered [] t 0 b ∷ numbered_romans bs (t + marks b) s
        | false ↦ numbered_romans (b ∷ bs) t s
      ]
    ]

-- block k replaces every placeholder k, for k = 0, 1, 2, ..
unfoldable pub restored : ℕ → List (List ℕ) → List ℕ → List ℕ
unfolding placeholder replace
restored k [] s = s
restored k (b ∷ bs) s = restored (suc k) bs (replace (placeholder k) b s)

unfoldable pub rust_put_back : Held → List ℕ
unfolding numbered numbered_romans restored
rust_put_back h =
    let first = length (texts_of h) in
    restored 0 (texts_of h ++ numbered_romans h.romans 0 h.text) (numbered h.romans 0 first h.text)

pub romans-none : (t : ℕ) (s : List ℕ) → numbered_romans [] t s ≡ []
unfolding numbered_romans
romans-none t [] = refl
romans-none t (x ∷ s) = refl
