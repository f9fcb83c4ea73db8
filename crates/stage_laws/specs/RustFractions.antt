-- The rounds of fractions as the Rust has them: a round takes every slash that has a numerator and a denominator, also one whose numerator reaches into
-- text that the same round has rewritten. `Fractions` of the crate `spec` leaves such a slash for the next round, as request A4 has it, and
-- `LeftSlashes` says where both are the same. Assumes nothing.
--     rust_regular_fractions          one round; none where number 9 is met
--     rust_fractions                 the rounds, with numbers 5, 7 and 9
--     converted_with_rust_fractions    what a call comes to with them
use Rattle.std.specs.Prelude.{Bool, true, false, cond, ℕ, zero, suc, ◌-◌, ltb, length, drop}
use mathlib.Core.List.{List, [], ◌∷◌, reverse, reverse_aux}
use Rattle.std.proofs.Math.Option.{Option, none, some}
use Prim.Native.Char.{code}
use Rattle.spec.specs.Symbols.{is, same, until, trim_start}
use Rattle.spec.specs.Result.{Result, passed, refused, ◌then◌, most_symbols, stage}
use Rattle.spec.specs.Table.{Definition}
use Rattle.spec.specs.Definitions.{apply_definitions_outside_text}
use Rattle.spec.specs.Words.{convert_words, convert_greek_capitals}
use Rattle.spec.specs.Scripts.{convert_subscripts, convert_superscripts}
use Rattle.spec.specs.Fractions.{strip_outer_parens, is_inside_subscript_context, find_fraction_part_before, find_fraction_part_after, barred, frac, most_rounds}
use Rattle.spec.specs.Finish.{escape_set_braces, convert_lr, size_delimiters_to_content, escape_percent, convert_alignment, drop_thin_space_after_commands}
use Rattle.spec.specs.Pipeline.{unmark_solidus, on_display, definitions_or, admitted, fitting}
use Rattle.stage_laws.specs.Stages.{before_definitions, before_words}

-- ---- one round
-- how many symbols behind this one are passed, and what is written then, last first
pub record RustStep : Type 0 where
  pub skip : ℕ
  pub written : List ℕ

abbrev pub rust_copied : ℕ → List ℕ → RustStep
rust_copied x o = record { skip = 0; written = x ∷ o }

-- The numerator lies between q and the slash, the denominator between the slash and r. As many symbols as lie from the numerator's start to the slash
-- are dropped from the end of what was written.
abbrev pub rust_fraction_of : List ℕ → List ℕ → List ℕ → List ℕ → List ℕ → RustStep
rust_fraction_of p o s q r =
    record {
      skip = length s - length r;
      written = reverse_aux (frac (strip_outer_parens (reverse (until (trim_start p) q))) (strip_outer_parens (until (trim_start s) r))) (drop (length p - length q) o);
    }

abbrev pub rust_with_denominator : List ℕ → List ℕ → List ℕ → List ℕ → Option (List ℕ) → RustStep
rust_with_denominator p o s q none = rust_copied (code "/") o
rust_with_denominator p o s q (some r) = rust_fraction_of p o s q r

abbrev pub rust_with_numerator : List ℕ → List ℕ → List ℕ → Option (List ℕ) → Option RustStep
rust_with_numerator p o s none = some (rust_copied (code "/") o)
rust_with_numerator p o s (some q) = elim (barred (trim_start s)) [ true ↦ none | false ↦ some (rust_with_denominator p o s q (find_fraction_part_after (trim_start s))) ]

-- the slash between p and s, with o written so far; none where number 9 is met
unfoldable pub rust_slash : List ℕ → List ℕ → List ℕ → Option RustStep
unfolding is_inside_subscript_context find_fraction_part_before find_fraction_part_after barred strip_outer_parens
rust_slash p o s =
    elim (is_inside_subscript_context 0 p) [
      | true ↦ some (rust_copied (code "/") o)
      | false ↦ rust_with_numerator p o s (find_fraction_part_before (trim_start p))
    ]

unfoldable pub rust_fractions_from : ℕ → List ℕ → List ℕ → List ℕ → Option (List ℕ)
unfolding rust_slash
rust_fractions_from skip p o [] = some (reverse o)
rust_fractions_from (suc skip) p o (x ∷ s) = rust_fractions_from skip (x ∷ p) o s
rust_fractions_from zero p o (x ∷ s) =
    elim (is "/" x) [
      | true ↦ elim (rust_slash p o s) [ none ↦ none | some t ↦ rust_fractions_from t.skip (x ∷ p) t.written s ]
      | false ↦ rust_fractions_from 0 (x ∷ p) (x ∷ o) s
    ]

unfoldable pub rust_regular_fractions : List ℕ → Option (List ℕ)
unfolding rust_fractions_from
rust_regular_fractions s = rust_fractions_from 0 [] [] s

-- ---- rounds until nothing changes
-- k rounds may still change the text: 7 where none may and one would, or would meet 9
unfoldable pub rust_settle : ℕ → List ℕ → Result (List ℕ)
unfolding rust_regular_fractions
rust_settle zero s = elim (rust_regular_fractions s) [ none ↦ refused 7 | some t ↦ cond (same t s) (passed s) (refused 7) ]
rust_settle (suc k) s =
    elim (rust_regular_fractions s) [
      | none ↦ refused 9
      | some t ↦ elim (same t s) [
        | true ↦ passed s
        | false ↦ elim (ltb most_symbols (length t)) [ true ↦ refused 5 | false ↦ rust_settle k t ]
      ]
    ]

unfoldable pub rust_fractions : List ℕ → Result (List ℕ)
unfolding rust_settle
rust_fractions s = rust_settle most_rounds s

-- ---- the stages
-- what `convert_syntax` is given
abbrev pub before_syntax : List Definition → List ℕ → Result (List ℕ)
before_syntax ds s = before_definitions s then apply_definitions_outside_text ds

-- what `convert_syntax` makes of it before fractions
abbrev pub before_fractions : List ℕ → Result (List ℕ)
before_fractions s = before_words s then convert_words then convert_greek_capitals then convert_subscripts then convert_superscripts

abbrev pub syntax_with_rust_fractions : Bool → ℕ → List ℕ → Result (List ℕ)
syntax_with_rust_fractions display field s =
    before_fractions s
    then on_display display rust_fractions
    then stage unmark_solidus
    then stage escape_set_braces
    then convert_lr
    then on_display display (stage (size_delimiters_to_content field))
    then stage escape_percent

abbrev pub latex_with_rust_fractions : List Definition → Bool → ℕ → List ℕ → Result (List ℕ)
latex_with_rust_fractions ds display field s = before_syntax ds s then syntax_with_rust_fractions display field then stage convert_alignment then stage drop_thin_space_after_commands

abbrev pub converted_with_rust_fractions : List ℕ → List ℕ → Bool → ℕ → List ℕ → List ℕ → Result (List ℕ)
converted_with_rust_fractions formula table display field work output = admitted formula table field work then latex_with_rust_fractions (definitions_or table) display field then fitting output
