-- The call rewritings as the Rust has them: their searches count every parenthesis, quoted or not. `Calls` of the crate `spec` passes over quoted ones,
-- as request A8 has it, and `PassedOver` says where both are the same. Assumes nothing.
--     rust_calls, ..             each rewriting
--     rust_before_quotes          the stages from the solidus to the second `upright`
--     converted_with_rust_calls    what a call comes to with them
use Rattle.std.specs.Prelude.{Bool, List, ◌++◌, map, ℕ, zero, suc, length}
use Rattle.std.proofs.Math.Option.{Option, none, some, get_or}
use Rattle.spec.specs.Symbols.{bytes, ◌and_then◌, inside, trim, trim_quotes, find}
use Rattle.spec.specs.Sweep.{Rule, taken, kept, sweep}
use Rattle.spec.specs.Result.{Result, ◌then◌, stage}
use Rattle.spec.specs.Closing.{find_comma_in_args, comma_behind, split_top_level_commas, split_from}
use Rattle.spec.specs.Calls.{call_at, call_length, calling, nonblank, joined, spliced, latex_attach}
use Rattle.spec.specs.Quotes.{convert_text_quotes}
use Rattle.spec.specs.Table.{Definition}
use Rattle.spec.specs.Definitions.{apply_definitions_outside_text}
use Rattle.spec.specs.Finish.{convert_alignment, drop_thin_space_after_commands}
use Rattle.spec.specs.Pipeline.{mark_solidus, convert_syntax, definitions_or, admitted, fitting}

-- what stands inside the call that the text begins with
abbrev pub rust_call_at : List ℕ → List ℕ → Option (List ℕ)
rust_call_at name s = call_at (λ s. s) name s

unfoldable pub rust_calls : List ℕ → (List ℕ → List ℕ) → List ℕ → List ℕ
unfolding sweep call_at
rust_calls name write s = sweep (calling (λ s. s) name write) 0 0 s

-- ---- cases
unfoldable pub rust_latex_cases : List ℕ → List ℕ
unfolding split_from
rust_latex_cases inner = bytes "\\begin{cases} " ++ joined (bytes " \\\\ ") (nonblank (map trim (split_top_level_commas inner))) ++ bytes " \\end{cases}"

unfoldable pub rust_cases : List ℕ → List ℕ
unfolding find call_at rust_latex_cases
rust_cases s =
    get_or
    (find (bytes "cases(") s and_then λ at.
    rust_call_at (bytes "cases(") at and_then λ inner.
    some (spliced s at (bytes "cases(") inner (rust_latex_cases inner)))
    s

-- ---- attach
unfoldable pub rust_attach_once : List ℕ → Option (List ℕ)
unfolding find call_at latex_attach
rust_attach_once s =
    find (bytes "attach(") s and_then λ at.
    rust_call_at (bytes "attach(") at and_then λ inner.
    latex_attach inner and_then λ fresh.
    some (spliced s at (bytes "attach(") inner fresh)

unfoldable pub rust_attach_times : ℕ → List ℕ → List ℕ
unfolding rust_attach_once
rust_attach_times zero s = s
rust_attach_times (suc k) s = elim (rust_attach_once s) [ none ↦ s | some t ↦ rust_attach_times k t ]

unfoldable pub rust_attach : List ℕ → List ℕ
unfolding rust_attach_times
rust_attach s = rust_attach_times (length s) s

-- ---- binom
abbrev pub rust_binom_turn : Rule
rust_binom_turn before s =
    get_or
    (rust_call_at (bytes "binom(") s and_then λ inner.
    find_comma_in_args inner and_then λ second.
    let first = inside inner second in
    some (taken (call_length (bytes "binom(") inner) (bytes "\\binom{" ++ trim first ++ bytes "}{" ++ trim second ++ bytes "}")))
    (kept s)

unfoldable pub rust_binom : List ℕ → List ℕ
unfolding sweep call_at comma_behind
rust_binom s = sweep rust_binom_turn 0 0 s

-- ---- the stages
abbrev pub rust_op : List ℕ → List ℕ
rust_op s = rust_calls (bytes "op(") (λ inner. bytes "\\operatorname{" ++ trim_quotes (trim inner) ++ bytes "}") s

abbrev pub rust_upright : List ℕ → List ℕ
rust_upright s = rust_calls (bytes "upright(") (λ inner. bytes "\\mathrm{" ++ trim_quotes (trim inner) ++ bytes "}") s

abbrev pub rust_delimiter_func : List ℕ → List ℕ → List ℕ → List ℕ → List ℕ
rust_delimiter_func name left right s = rust_calls name (λ inner. left ++ inner ++ right) s

abbrev pub rust_floor_ceil_abs : List ℕ → Result (List ℕ)
rust_floor_ceil_abs s =
    stage (rust_delimiter_func (bytes "floor(") (bytes "\\left\\lfloor ") (bytes " \\right\\rfloor")) s
    then stage (rust_delimiter_func (bytes "ceil(") (bytes "\\left\\lceil ") (bytes " \\right\\rceil"))
    then stage (rust_delimiter_func (bytes "abs(") (bytes "\\left\\lvert ") (bytes " \\right\\rvert"))
    then stage (rust_delimiter_func (bytes "cal(") (bytes "\\mathcal{") (bytes "}"))
    then stage (rust_delimiter_func (bytes "frak(") (bytes "\\mathfrak{") (bytes "}"))
    then stage (rust_delimiter_func (bytes "upright(") (bytes "\\mathrm{") (bytes "}"))

abbrev pub rust_before_quotes : List ℕ → Result (List ℕ)
rust_before_quotes s =
    stage mark_solidus s
    then stage rust_op
    then stage rust_cases
    then stage rust_attach
    then stage (rust_delimiter_func (bytes "bb(") (bytes "\\mathbb{") (bytes "}"))
    then stage (rust_delimiter_func (bytes "bold(") (bytes "\\mathbf{") (bytes "}"))
    then stage rust_binom
    then stage rust_upright
    then rust_floor_ceil_abs

abbrev pub latex_with_rust_calls : List Definition → Bool → ℕ → List ℕ → Result (List ℕ)
latex_with_rust_calls ds display field s =
    rust_before_quotes s
    then stage convert_text_quotes
    then apply_definitions_outside_text ds
    then convert_syntax display field
    then stage convert_alignment
    then stage drop_thin_space_after_commands

abbrev pub converted_with_rust_calls : List ℕ → List ℕ → Bool → ℕ → List ℕ → List ℕ → Result (List ℕ)
converted_with_rust_calls formula table display field work output = admitted formula table field work then latex_with_rust_calls (definitions_or table) display field then fitting output
