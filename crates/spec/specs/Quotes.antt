-- Quoted text: `"..."` becomes `\text{...}`, with a thin space where a letter, digit, closing brace or another quote is its neighbour. Assumes nothing.
use Rattle.std.specs.Prelude.{Bool, true, false, cond, ◌||◌, ℕ, zero, suc, ◌-◌, length}
use mathlib.Core.List.{List, [], ◌∷◌, reverse, reverse_aux}
use Prim.Native.Char.{code}
use Rattle.spec.specs.Symbols.{bytes, is, alnum, head, trim_start}

-- What was written so far is kept last symbol first, since an opening quote drops the blanks that end it.
abbrev pub appended : List ℕ → List ℕ → List ℕ
appended o w = reverse_aux w o

-- Before an opening quote the Rust looks at what it has written, where a quoted text ends with `}`: so a closing brace counts. (`_` and `^` are
-- neither of these, so its two further tests change nothing.)
abbrev pub gap_before : List ℕ → Bool
gap_before o = alnum (head o) || is "}" (head o)

abbrev pub open_quote : List ℕ → List ℕ
open_quote o =
    let trimmed = trim_start o in
    appended (cond (gap_before trimmed) (appended trimmed (bytes "\\;")) o) (bytes "\\text{")

-- Behind a closing quote it looks at the formula, where a quoted text begins with a quote: so a quote counts, and a closing brace does not.
abbrev pub gap_behind : List ℕ → Bool
gap_behind s = alnum (head (trim_start s)) || is "\"" (head (trim_start s))

abbrev pub close_quote : List ℕ → List ℕ → List ℕ
close_quote o s = appended (code "}" ∷ o) (cond (gap_behind s) (bytes "\\;") [])

-- where a gap is written, the blanks behind the quote are skipped
abbrev pub skipped : List ℕ → ℕ
skipped s = cond (gap_behind s) (length s - length (trim_start s)) 0

unfoldable pub quotes : Bool → ℕ → List ℕ → List ℕ → List ℕ
quotes quoted skip o [] = cond quoted (code "}" ∷ o) o
quotes quoted (suc skip) o (x ∷ s) = quotes quoted skip o s
quotes quoted zero o (x ∷ s) =
    elim (is "\"" x) [
      | false ↦ quotes quoted 0 (x ∷ o) s
      | true ↦ elim quoted [ false ↦ quotes true 0 (open_quote o) s | true ↦ quotes false (skipped s) (close_quote o s) s ]
    ]

unfoldable pub convert_text_quotes : List ℕ → List ℕ
unfolding quotes
convert_text_quotes s = reverse (quotes false 0 [] s)
