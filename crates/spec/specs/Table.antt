-- The definition table: records of a header, a name and its LaTeX, in one of two forms. A table whose first byte is 00 is in the wide form: behind
-- that byte each header has 24 bits, most significant first (4 zero bits, 7 bits name length, 13 bits LaTeX length). Any other table is in the
-- narrow form, with headers of 16 bits (6 bits name length, 10 bits LaTeX length).
--     records        the records of a table of either form, or none where one of them can't be read
--     definitions    the same, or none where number 3 refuses the table
--     in_order        the order in which they are applied: longer names first, names of equal length in ascending byte order
-- Assumes nothing.
use Rattle.std.specs.Prelude.{Bool, true, false, not, cond, ◌&&◌, ◌||◌, List, [], ◌∷◌, ◌++◌, ℕ, zero, suc, ◌+◌, ◌*◌, ◌/◌, ◌%◌, eqb, ltb, length, take, drop}
use Rattle.std.proofs.Math.Option.{Option, none, some, map}
use Rattle.spec.specs.Symbols.{is, letter, alnum, foreign, head, all, any, same}

pub record Definition : Type 0 where
  pub name : List ℕ
  pub latex : List ℕ

abbrev pub most_bytes : ℕ
most_bytes = 32768

abbrev pub most_records : ℕ
most_records = 64

-- ---- the two forms: `wide` is document 02's word (A6)
pub data Form : Type 0 where
  narrow : Form
  wide : Form

abbrev pub form_of : List ℕ → Form
form_of [] = narrow
form_of (x ∷ table) = cond (eqb x 0) wide narrow

-- where the first record begins: behind the byte of the wide form
abbrev pub start : Form → ℕ
start narrow = 0
start wide = 1

-- the bytes of a header
abbrev pub width : Form → ℕ
width narrow = 2
width wide = 3

-- what a header says of its record
pub record Lengths : Type 0 where
  pub name : ℕ
  pub latex : ℕ

-- the header's bytes are `high`, in the wide form `middle`, and `low`
abbrev pub narrow_lengths : ℕ → ℕ → Lengths
narrow_lengths high low = record { name = high / 4; latex = (high % 4) * 256 + low }

abbrev pub wide_lengths : ℕ → ℕ → ℕ → Lengths
wide_lengths high middle low = record { name = high * 8 + middle / 32; latex = (middle % 32) * 256 + low }

-- None where the header is cut off, or a bit is set among the first four of the wide form.
abbrev pub lengths_of : Form → List ℕ → Option Lengths
lengths_of narrow [] = none
lengths_of narrow (high ∷ []) = none
lengths_of narrow (high ∷ low ∷ rest) = some (narrow_lengths high low)
lengths_of wide [] = none
lengths_of wide (high ∷ []) = none
lengths_of wide (high ∷ middle ∷ []) = none
lengths_of wide (high ∷ middle ∷ low ∷ rest) = cond (ltb high 16) (some (wide_lengths high middle low)) none

-- ---- reading
abbrev pub definition_of : Lengths → List ℕ → Definition
definition_of l rest = record { name = take l.name rest; latex = take l.latex (drop l.name rest) }

-- the record of these lengths at the beginning of `rest`, before those that are read behind it
abbrev pub record-before : Lengths → List ℕ → Option (List Definition) → Option (List Definition)
record-before l rest later =
    elim (ltb (length rest) (l.name + l.latex)) [ true ↦ none | false ↦ map (λ (ds : List Definition). definition_of l rest ∷ ds) later ]

-- by what the header at the beginning of s says, with `later` for what follows the record
abbrev pub records_behind : Form → List ℕ → (List ℕ → Option (List Definition)) → Option Lengths → Option (List Definition)
records_behind form s later none = none
records_behind form s later (some l) = let rest = drop (width form) s in record-before l rest (later (drop (l.name + l.latex) rest))

-- None where a header can't be read or a record goes past the end. k bounds the records; it never runs out, since each record has a header and k is
-- the length of what is read.
unfoldable pub records_with : Form → ℕ → List ℕ → Option (List Definition)
records_with form zero s = some []
records_with form (suc k) [] = some []
records_with form (suc k) (x ∷ s) = records_behind form (x ∷ s) (λ t. records_with form k t) (lengths_of form (x ∷ s))

-- the records of a form, one after another
unfoldable pub records_in : Form → List ℕ → Option (List Definition)
unfolding records_with
records_in form s = records_with form (length s) s

abbrev pub records : List ℕ → Option (List Definition)
records table = records_in (form_of table) (drop (start (form_of table)) table)

-- ---- faults
abbrev pub faulty_name : List ℕ → Bool
faulty_name name = not (letter (head name) && all alnum name)

abbrev pub faulty_latex : List ℕ → Bool
faulty_latex latex = any (λ x. foreign x || is "$" x) latex

abbrev pub named : List ℕ → List Definition → Bool
named name [] = false
named name (d ∷ ds) = same name d.name || named name ds

unfoldable pub faulty : List Definition → Bool
faulty [] = false
faulty (d ∷ ds) = faulty_name d.name || (faulty_latex d.latex || (named d.name ds || faulty ds))

abbrev pub sound : List Definition → Option (List Definition)
sound ds = cond (ltb most_records (length ds) || faulty ds) none (some ds)

abbrev pub whole : Option (List Definition) → Option (List Definition)
whole none = none
whole (some ds) = sound ds

unfoldable pub definitions : List ℕ → Option (List Definition)
unfolding records_in faulty
definitions table = elim (ltb most_bytes (length table)) [ true ↦ none | false ↦ whole (records table) ]

-- ---- the order in which definitions are applied
-- ascending byte order: digits, capitals, small letters
abbrev pub lower : List ℕ → List ℕ → Bool
lower s [] = false
lower [] (y ∷ t) = true
lower (x ∷ s) (y ∷ t) = ltb x y || (eqb x y && lower s t)

-- longer names first, and names of equal length in byte order
abbrev pub precedes : List ℕ → List ℕ → Bool
precedes a b = ltb (length b) (length a) || (eqb (length a) (length b) && lower a b)

abbrev pub inserted : Definition → List Definition → List Definition
inserted d [] = d ∷ []
inserted d (e ∷ es) = elim (precedes d.name e.name) [ true ↦ d ∷ e ∷ es | false ↦ e ∷ inserted d es ]

unfoldable pub in_order : List Definition → List Definition
in_order [] = []
in_order (d ∷ ds) = inserted d (in_order ds)

-- the records of the first list, each put in at some place: the same records in whatever order
pub data Rearranged : List Definition → List Definition → Type 0 where
  nothing : Rearranged [] []
  put : {ds : List Definition} (d : Definition) (es fs : List Definition) → Rearranged ds (es ++ fs) → Rearranged (d ∷ ds) (es ++ d ∷ fs)
