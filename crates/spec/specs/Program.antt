-- The program `formula`: from all bytes of standard input and of the table to the text on standard output. Assumes nothing.
--     first_line, formula_of    the two parts of the input
--     printed                 the text on standard output
--     Run                     the text and its length, in a lent buffer, and the buffers that are lent to the entry
--     Prints                  the same from what has been read into buffers, whatever lies behind the place where reading stopped
use Rattle.std.specs.Prelude.{◌≡◌, Bool, true, false, cond, List, [], ◌∷◌, ◌++◌, reverse, ℕ, zero, suc, length, take, drop, replicate}
use Rattle.std.proofs.Math.Option.{Option, none, some}
use Rattle.spec.specs.Symbols.{bytes, is}
use Rattle.spec.specs.Result.{Result, passed, refused}
use Rattle.spec.specs.Finish.{all_tall}
use Rattle.spec.specs.Pipeline.{least_work, converted, output_after, work_after}

-- ---- the input: a line `d` (display on) or `i` (off), then the formula to the end
abbrev pub display_of : ℕ → Option Bool
display_of b = cond (is "d" b) (some true) (cond (is "i" b) (some false) none)

-- the display; none where the line is neither
abbrev pub first_line : List ℕ → Option Bool
first_line [] = none
first_line (b ∷ []) = display_of b
first_line (b ∷ c ∷ formula) = cond (is "\n" c) (display_of b) none

-- with no newline after `d` or `i` it is empty
abbrev pub formula_of : List ℕ → List ℕ
formula_of input = drop 2 input

-- ---- the text
-- a number's digits, the last first, one further
unfoldable pub up : List ℕ → List ℕ
up [] = bytes "1"
up (d ∷ ds) = elim (is "9" d) [ true ↦ bytes "0" ++ up ds | false ↦ suc d ∷ ds ]

unfoldable pub counted : ℕ → List ℕ
counted zero = bytes "0"
counted (suc n) = up (counted n)

-- the first digit first
abbrev pub decimal : ℕ → List ℕ
decimal n = reverse (counted n)

abbrev pub most_output : ℕ
most_output = 8192

abbrev pub reported : Result (List ℕ) → List ℕ
reported (passed latex) = bytes "ok " ++ decimal (length latex) ++ bytes "\n" ++ latex ++ bytes "\n"
reported (refused number) = bytes "refused " ++ decimal number ++ bytes "\n"

-- what the entry makes of the formula
abbrev pub answered : List ℕ → List ℕ → Bool → Result (List ℕ)
answered input table display = converted (formula_of input) table display all_tall (replicate least_work 0) (replicate most_output 0)

abbrev pub printed : List ℕ → List ℕ → List ℕ
printed input table = elim (first_line input) [ none ↦ bytes "first line: d or i\n" | some display ↦ reported (answered input table display) ]

-- ---- a run of the program
-- a buffer that is lent to the entry, as that leaves it; where the first line is neither, it is untouched
abbrev pub buffer_after : (Result (List ℕ) → List ℕ → List ℕ) → List ℕ → List ℕ → List ℕ → List ℕ
buffer_after after input table buffer = elim (first_line input) [ none ↦ buffer | some display ↦ after (answered input table display) buffer ]

-- the text comes to stand at the start of the buffer, whose other bytes are as they were
pub record Run (input table work output buffer : List ℕ) (count : ℕ) (work' output' buffer' : List ℕ) : Type 0 where
  pub answers : count ≡ length (printed input table)
  pub writes : buffer' ≡ printed input table ++ drop (length (printed input table)) buffer
  pub clears : work' ≡ buffer_after work_after input table work
  pub puts-out : output' ≡ buffer_after output_after input table output

-- n bytes have been read into a buffer: all that there are, or as many as the buffer holds
abbrev pub Read : List ℕ → ℕ → List ℕ → Type 0
Read buffer n whole = take n buffer ≡ take (length buffer) whole

-- of the table nothing has to be read where the first line is neither
abbrev pub Prints : List ℕ → ℕ → List ℕ → ℕ → List ℕ → List ℕ → List ℕ → ℕ → List ℕ → List ℕ → List ℕ → Type 0
Prints input_read n table_read m work output buffer count work' output' buffer' =
    (input table : List ℕ) → Read input_read n input → ((display : Bool) → first_line input ≡ some display → Read table_read m table)
    → Run input table work output buffer count work' output' buffer'
