-- The rows of a table, as the definitions have them. Assumes nothing.
use Rattle.std.specs.Prelude.{◌≡◌, refl, ◌||◌, List, [], ◌∷◌, ℕ, map, take, drop, get_or}
use Rattle.std.specs.List.{list_any}
use Rattle.std.proofs.Common.{ap}
use Rattle.spec.specs.Symbols.{same}
use Rattle.spec.specs.Finish.{one_of}
use Rattle.spec.specs.Rows.{Row as DefinedRow}
use Rattle.spec.specs.Grammar.{typsts}

-- a row as the code holds it: a length and 15 bytes, a length and 19 bytes
abbrev pub Row : Type 0
Row = List ℕ

abbrev pub row_of : Row → DefinedRow
row_of r = record { typst = take (get_or r 0 0) (take 15 (drop 1 r)); latex = take (get_or r 16 0) (take 19 (drop 17 r)) }

abbrev pub rows_of : List Row → List DefinedRow
rows_of = map row_of

-- whether a text is the name of a row
pub name-any : (table : List Row) (s : List ℕ) → list_any (λ r. same (row_of r).typst s) table ≡ one_of (typsts (rows_of table)) s
name-any [] s = refl
name-any (r ∷ rs) s = ap (λ b. same (row_of r).typst s || b) (name-any rs s)
