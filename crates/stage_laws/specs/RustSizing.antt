-- The sizing of delimiters as the Rust has it: each of the five commands counts as tall. `Finish` of the crate `spec` lets the caller choose among them, as
-- request A13 has it, and `SizingStages` says that both are the same where all five are chosen. Assumes nothing.
--     rust_tall                   one of the five occurs
--     rust_sizing                 size_delimiters_to_content
--     converted_with_rust_sizing    what a call comes to with it; it takes no field and has no number 15
use Rattle.std.specs.Prelude.{Bool, true, false, cond, ◌||◌, ℕ, zero, suc, ltb, length}
use mathlib.Core.List.{List, [], ◌∷◌, ◌++◌, reverse_aux}
use Rattle.std.proofs.Math.Option.{Option, none, some}
use Rattle.spec.specs.Symbols.{bytes, ◌and_then◌, until, inside, contains}
use Rattle.spec.specs.Result.{Result, refused, ◌then◌, stage}
use Rattle.spec.specs.Closing.{close, matching_delimiter}
use Rattle.spec.specs.Table.{Definition}
use Rattle.spec.specs.Fractions.{convert_fractions}
use Rattle.spec.specs.Finish.{escape_set_braces, convert_lr, script_group, closing, already_sized, Group, left_right, escape_percent, convert_alignment, drop_thin_space_after_commands}
use Rattle.spec.specs.Pipeline.{least_work, unmark_solidus, on_display, definitions_or, checked, fitting}
use Rattle.stage_laws.specs.RustFractions.{before_syntax, before_fractions}

-- ---- size_delimiters_to_content; what was written so far, on this level, stands last first
abbrev pub rust_tall : List ℕ → Bool
rust_tall s =
    contains (bytes "\\frac") s
    || (contains (bytes "\\sqrt") s || (contains (bytes "\\binom") s || (contains (bytes "\\sum") s || contains (bytes "\\int") s)))

-- the tall group that x opens before s
unfoldable pub rust_tall_group : List ℕ → ℕ → List ℕ → Option Group
unfolding close
rust_tall_group o x s =
    elim (already_sized o) [
      | true ↦ none
      | false ↦
          closing x and_then λ c.
          matching_delimiter x c (x ∷ s) and_then λ r.
          cond (rust_tall (inside s r)) (some (record { closer = c; content = inside s r; behind = r })) none
    ]

-- one step; `go` sizes what is shorter
unfoldable pub rust_size_step : (List ℕ → List ℕ → List ℕ) → List ℕ → List ℕ → List ℕ
unfolding rust_tall_group close
rust_size_step go o [] = []
rust_size_step go o (x ∷ s) =
    elim (script_group x s) [
      | some r ↦ let group = until (x ∷ s) r in group ++ go (reverse_aux group o) r
      | none ↦ elim (rust_tall_group o x s) [
        | some g ↦ let sized = left_right x g.closer (go [] g.content) in sized ++ go (reverse_aux sized o) g.behind
        | none ↦ x ∷ go (x ∷ o) s
      ]
    ]

-- k bounds the steps
unfoldable pub rust_size_with : ℕ → List ℕ → List ℕ → List ℕ
unfolding rust_size_step
rust_size_with zero o s = s
rust_size_with (suc k) o s = rust_size_step (rust_size_with k) o s

unfoldable pub rust_sizing : List ℕ → List ℕ
unfolding rust_size_with
rust_sizing s = rust_size_with (length s) [] s

-- ---- the stages, with a way to size
abbrev pub syntax_with_sizing : (List ℕ → List ℕ) → Bool → List ℕ → Result (List ℕ)
syntax_with_sizing size display s =
    before_fractions s
    then on_display display convert_fractions
    then stage unmark_solidus
    then stage escape_set_braces
    then convert_lr
    then on_display display (stage size)
    then stage escape_percent

abbrev pub latex_with_sizing : (List ℕ → List ℕ) → List Definition → Bool → List ℕ → Result (List ℕ)
latex_with_sizing size ds display s = before_syntax ds s then syntax_with_sizing size display then stage convert_alignment then stage drop_thin_space_after_commands

-- ---- a call
-- number 4 before the others
abbrev pub admitted_without_field : List ℕ → List ℕ → List ℕ → Result (List ℕ)
admitted_without_field formula table work = elim (ltb (length work) least_work) [ true ↦ refused 4 | false ↦ checked formula table ]

abbrev pub converted_with_rust_sizing : List ℕ → List ℕ → Bool → List ℕ → List ℕ → Result (List ℕ)
converted_with_rust_sizing formula table display work output = admitted_without_field formula table work then latex_with_sizing rust_sizing (definitions_or table) display then fitting output
