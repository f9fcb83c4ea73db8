-- The word under the pointer, document 02's A14: what is handed back for a byte place of a formula.
--     word_start, word_end    the word: the longest run of letters and digits around the place
--     latex_place            where the LaTeX of a name lies in a table
--     word_at                the part that is handed back, or the number of a refusal: 2, 1, 3, 16
-- Assumes nothing.
use Rattle.std.specs.Prelude.{true, false, cond, List, [], ◌∷◌, reverse, ℕ, ◌+◌, ◌-◌, ltb, length, take, drop}
use Rattle.std.proofs.Math.Option.{Option, none, some, get_or}
use Rattle.spec.specs.Symbols.{alnum, head, same, drop_while}
use Rattle.spec.specs.Result.{Result, passed, refused, ◌then◌}
use Rattle.spec.specs.Table.{Definition, Form, form_of, start, width, definitions}
use Rattle.spec.specs.Pipeline.{definitions_or, checked}

-- a place and a length, within the formula or within the table
pub data WordPart : Type 0 where
  in_formula in_table : ℕ → ℕ → WordPart

abbrev pub part_bytes : List ℕ → List ℕ → WordPart → List ℕ
part_bytes formula table (in_formula at n) = take n (drop at formula)
part_bytes formula table (in_table at n) = take n (drop at table)

abbrev pub word_start : List ℕ → ℕ → ℕ
word_start formula place = length (drop_while alnum (reverse (take place formula)))

abbrev pub word_end : List ℕ → ℕ → ℕ
word_end formula place = length formula - length (drop_while alnum (drop place formula))

-- the records lie one behind another, the first of them at the place `at`
abbrev pub latex_place : Form → List ℕ → ℕ → List Definition → Option WordPart
latex_place form name at [] = none
latex_place form name at (d ∷ ds) =
    let latex = at + width form + length d.name in
    elim (same name d.name) [ true ↦ some (in_table latex (length d.latex)) | false ↦ latex_place form name (latex + length d.latex) ds ]

-- a defined name of two or more bytes stands for its LaTeX, and any other word for itself
abbrev pub stands_for : List ℕ → List ℕ → ℕ → ℕ → WordPart
stands_for formula table at n =
    cond (ltb n 2) (in_formula at n)
    (get_or (latex_place (form_of table) (take n (drop at formula)) (start (form_of table)) (definitions_or table)) (in_formula at n))

-- number 16: the place is at or past the end, or on another character
abbrev pub pointed : List ℕ → ℕ → List ℕ → Result WordPart
pointed table place formula =
    let at = word_start formula place in
    cond (alnum (head (drop place formula))) (passed (stands_for formula table at (word_end formula place - at))) (refused 16)

unfoldable pub word_at : List ℕ → List ℕ → ℕ → Result WordPart
unfolding definitions
word_at formula table place = checked formula table then pointed table place

-- ---- what the two calls answer
-- 0 where there is no refusal
abbrev pub number_of : Result WordPart → ℕ
number_of (passed part) = 0
number_of (refused number) = number

-- the formula's empty beginning where there is one
abbrev pub part_of : Result WordPart → WordPart
part_of (passed part) = part
part_of (refused number) = in_formula 0 0
