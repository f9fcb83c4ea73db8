-- typst_to_latex: all stages in the Rust's order, then the answer of a call and what stands in the lent buffers afterwards. Assumes nothing.
--     convert_syntax, typst_to_latex    the Rust's functions of these names, with the refusals 5 to 9
--     converted                      the bytes that a call puts out, or its refusal: 4, 15, 2, 1, 3, the stages, 10
--     Call                           what a call answers and leaves, from what it was lent
use Rattle.std.specs.Prelude.{◌≡◌, Bool, true, false, cond, List, [], ◌∷◌, ◌++◌, ℕ, eqb, ltb, length, drop, replicate}
use Rattle.std.proofs.Math.Option.{Option, none, some, get_or}
use Rattle.spec.specs.Symbols.{bytes, solidus, foreign, any}
use Rattle.spec.specs.Sweep.{replace}
use Rattle.spec.specs.Result.{Result, passed, refused, ◌then◌, stage}
use Rattle.spec.specs.Calls.{convert_calls, convert_op, convert_cases, convert_attach, convert_bb, convert_bold, convert_binom, convert_upright, convert_floor_ceil_abs}
use Rattle.spec.specs.Quotes.{convert_text_quotes}
use Rattle.spec.specs.Table.{Definition, definitions}
use Rattle.spec.specs.Definitions.{apply_definitions_outside_text}
use Rattle.spec.specs.Rows.{function_mappings, operator_replacements}
use Rattle.spec.specs.Words.{convert_sqrt, replace_rows, convert_words, capitals, convert_greek_capitals}
use Rattle.spec.specs.Scripts.{convert_paren_to_brace, wrap_text_subscripts, wrap_multichar_scripts, convert_subscripts, convert_superscripts}
use Rattle.spec.specs.Fractions.{convert_fractions}
use Rattle.spec.specs.Finish.{all_tall, escape_set_braces, convert_lr, size_delimiters_to_content, escape_percent, convert_alignment, drop_thin_space_after_commands}

-- ---- the stages
abbrev pub mark_solidus : List ℕ → List ℕ
mark_solidus s = replace (bytes "\\/") (solidus ∷ []) s

abbrev pub unmark_solidus : List ℕ → List ℕ
unmark_solidus s = replace (solidus ∷ []) (bytes "/") s

-- the display's stages are left out where it is off
abbrev pub on_display : Bool → (List ℕ → Result (List ℕ)) → List ℕ → Result (List ℕ)
on_display true f s = f s
on_display false f s = passed s

unfoldable pub convert_syntax : Bool → ℕ → List ℕ → Result (List ℕ)
unfolding replace convert_sqrt replace_rows convert_words capitals convert_paren_to_brace wrap_text_subscripts wrap_multichar_scripts convert_fractions escape_set_braces convert_lr size_delimiters_to_content
convert_syntax display field s =
    stage convert_sqrt s
    then replace_rows function_mappings
    then replace_rows operator_replacements
    then convert_words
    then convert_greek_capitals
    then convert_subscripts
    then convert_superscripts
    then on_display display convert_fractions
    then stage unmark_solidus
    then stage escape_set_braces
    then convert_lr
    then on_display display (stage (size_delimiters_to_content field))
    then stage escape_percent

unfoldable pub typst_to_latex : List Definition → Bool → ℕ → List ℕ → Result (List ℕ)
unfolding replace convert_calls convert_cases convert_attach convert_binom convert_text_quotes apply_definitions_outside_text convert_syntax convert_alignment drop_thin_space_after_commands
typst_to_latex ds display field s =
    stage mark_solidus s
    then stage convert_op
    then stage convert_cases
    then stage convert_attach
    then stage convert_bb
    then stage convert_bold
    then stage convert_binom
    then stage convert_upright
    then convert_floor_ceil_abs
    then stage convert_text_quotes
    then apply_definitions_outside_text ds
    then convert_syntax display field
    then stage convert_alignment
    then stage drop_thin_space_after_commands

-- ---- a call
abbrev pub most_formula : ℕ
most_formula = 4096

abbrev pub least_work : ℕ
least_work = 32768

-- the records of a table that is refused are none
abbrev pub definitions_or : List ℕ → List Definition
definitions_or table = get_or (definitions table) []

-- number 3
abbrev pub readable : List ℕ → Option (List Definition) → Result (List ℕ)
readable formula none = refused 3
readable formula (some ds) = passed formula

-- numbers 2, 1, 3, in this order
abbrev pub checked : List ℕ → List ℕ → Result (List ℕ)
checked formula table =
    elim (ltb most_formula (length formula)) [
      | true ↦ refused 2
      | false ↦ elim (any foreign formula) [ true ↦ refused 1 | false ↦ readable formula (definitions table) ]
    ]

-- numbers 4 and 15 before them
abbrev pub admitted : List ℕ → List ℕ → ℕ → List ℕ → Result (List ℕ)
admitted formula table field work =
    elim (ltb (length work) least_work) [
      | true ↦ refused 4
      | false ↦ elim (ltb all_tall field) [ true ↦ refused 15 | false ↦ checked formula table ]
    ]

-- number 10
abbrev pub fitting : List ℕ → List ℕ → Result (List ℕ)
fitting output s = cond (ltb (length output) (length s)) (refused 10) (passed s)

unfoldable pub converted : List ℕ → List ℕ → Bool → ℕ → List ℕ → List ℕ → Result (List ℕ)
unfolding definitions typst_to_latex
converted formula table display field work output = admitted formula table field work then typst_to_latex (definitions_or table) display field then fitting output

-- ---- the answer and the buffers
-- the byte count, or the refusal
abbrev pub answer_of : Result (List ℕ) → Result ℕ
answer_of (passed s) = passed (length s)
answer_of (refused number) = refused number

-- a refusal leaves the output as it was, and success leaves its other bytes
abbrev pub output_after : Result (List ℕ) → List ℕ → List ℕ
output_after (passed s) output = s ++ drop (length s) output
output_after (refused number) output = output

-- all zero, but untouched after 4
abbrev pub work_after : Result (List ℕ) → List ℕ → List ℕ
work_after (passed s) work = replicate (length work) 0
work_after (refused number) work = cond (eqb number 4) work (replicate (length work) 0)

-- a call, from what it was lent to what it answers and leaves
pub record Call (formula table : List ℕ) (display : Bool) (field : ℕ) (work output : List ℕ) (answer : Result ℕ) (work' output' : List ℕ) : Type 0 where
  pub answers : answer ≡ answer_of (converted formula table display field work output)
  pub clears : work' ≡ work_after (converted formula table display field work output) work
  pub writes : output' ≡ output_after (converted formula table display field work output) output
