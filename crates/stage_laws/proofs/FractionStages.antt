-- Where no round of fractions leaves a slash on the way of a formula, the conversion is the one with the Rust's rounds. Assumes nothing.
--     some_left                       on the way some round leaves a slash
--     converted-as-rust-fractions    where none does, a call comes to what it comes to with the Rust's
use Rattle.std.specs.Prelude.{◌≡◌, refl, Bool, true, false, ◌&&◌, List, ℕ}
use Rattle.std.proofs.Common.{ap}
use Rattle.spec.specs.Result.{Result, passed, refused, ◌then◌, stage}
use Rattle.spec.specs.Table.{Definition}
use Rattle.spec.specs.Fractions.{most_rounds, convert_fractions}
use Rattle.spec.specs.Finish.{escape_set_braces, convert_lr, size_delimiters_to_content, escape_percent, convert_alignment, drop_thin_space_after_commands}
use Rattle.spec.specs.Pipeline.{unmark_solidus, on_display, convert_syntax, typst_to_latex, definitions_or, fitting, converted}
use Rattle.spec.specs.Laws.Admission.{admitted-alike}
use Rattle.stage_laws.specs.RustFractions.{rust_fractions, before_syntax, before_fractions, syntax_with_rust_fractions, latex_with_rust_fractions, converted_with_rust_fractions}
use Rattle.stage_laws.specs.LeftSlashes.{leaves_in_rounds}
use Rattle.stage_laws.proofs.LeftSlashes.{fractions-as-rust}

-- the text that the rounds are given, if the stages before give one
abbrev pub left_in : Result (List ℕ) → Bool
left_in (passed s) = leaves_in_rounds most_rounds s
left_in (refused n) = false

-- only the display has fractions
abbrev pub some_left : List Definition → Bool → List ℕ → Bool
some_left ds display s = display && left_in (before_syntax ds s then before_fractions)

displayed-as-rust : (display : Bool) (r : Result (List ℕ)) → display && left_in r ≡ false → (r then on_display display convert_fractions) ≡ (r then on_display display rust_fractions)
displayed-as-rust true (passed s) e = fractions-as-rust s e
displayed-as-rust false (passed s) e = refl
displayed-as-rust display (refused n) e = refl

syntax-as-rust : (display : Bool) (field : ℕ) (s : List ℕ) → display && left_in (before_fractions s) ≡ false → convert_syntax display field s ≡ syntax_with_rust_fractions display field s
unfolding convert_syntax
syntax-as-rust display field s e =
    ap (λ r. r then stage unmark_solidus then stage escape_set_braces then convert_lr then on_display display (stage (size_delimiters_to_content field)) then stage escape_percent)
    (displayed-as-rust display (before_fractions s) e)

latex-as-rust : (ds : List Definition) (display : Bool) (field : ℕ) (s : List ℕ) → some_left ds display s ≡ false → typst_to_latex ds display field s ≡ latex_with_rust_fractions ds display field s
unfolding typst_to_latex
latex-as-rust ds display field s e = ap (λ r. r then stage convert_alignment then stage drop_thin_space_after_commands) (go (before_syntax ds s) e)
  where
    go : (r : Result (List ℕ)) → display && left_in (r then before_fractions) ≡ false → (r then convert_syntax display field) ≡ (r then syntax_with_rust_fractions display field)
    go (passed t) e = syntax-as-rust display field t e
    go (refused n) e = refl

pub converted-as-rust-fractions :
    (formula table : List ℕ) (display : Bool) (field : ℕ) (work output : List ℕ) → some_left (definitions_or table) display formula ≡ false
    → converted formula table display field work output ≡ converted_with_rust_fractions formula table display field work output
unfolding converted
converted-as-rust-fractions formula table display field work output e =
    ap (λ r. r then fitting output)
    (admitted-alike formula table field work (typst_to_latex (definitions_or table) display field) (latex_with_rust_fractions (definitions_or table) display field) (latex-as-rust (definitions_or table) display field formula e))
