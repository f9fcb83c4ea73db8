-- Where all five commands count as tall, the conversion is the one with the Rust's sizing; where the display is off, none counts. Assumes nothing.
--     sizing-as-rust              with all five, delimiters are sized as in the Rust
--     converted-as-rust-sizing    so a call comes to what it comes to with the Rust's
--     rust-sizing-call            and has its answer and bytes
--     undisplayed-same            with the display off, a call comes to the same by every field
use Rattle.std.specs.Prelude.{◌≡◌, refl, Bool, true, false, List, [], ℕ, zero, suc, ◌≤◌, ltb, length}
use Rattle.std.proofs.Common.{sym, ap, ◌∙◌, le-ltb}
use Rattle.std.proofs.Math.Path.{fun_ext}
use Rattle.spec.specs.Result.{Result, refused, ◌then◌}
use Rattle.spec.specs.Finish.{all_tall, size_with, size_delimiters_to_content}
use Rattle.spec.specs.Pipeline.{least_work, definitions_or, checked, admitted, convert_syntax, typst_to_latex, fitting, converted, answer_of, output_after, work_after, Call}
use Rattle.stage_laws.specs.Answers.{call-as}
use Rattle.stage_laws.specs.RustSizing.{rust_size_step, rust_size_with, rust_sizing, latex_with_sizing, admitted_without_field, converted_with_rust_sizing}
use Rattle.stage_laws.proofs.SizingSteps.{step-as-rust}

with-as-rust : (k : ℕ) (o s : List ℕ) → size_with all_tall k o s ≡ rust_size_with k o s
unfolding size_with rust_size_with
with-as-rust zero o s = refl
with-as-rust (suc k) o s = step-as-rust (size_with all_tall k) o s ∙ ap (λ go. rust_size_step go o s) (fun_ext (λ p. fun_ext (with-as-rust k p)))

pub sizing-as-rust : (s : List ℕ) → size_delimiters_to_content all_tall s ≡ rust_sizing s
unfolding size_delimiters_to_content rust_sizing
sizing-as-rust s = with-as-rust (length s) [] s

pub converted-as-rust-sizing :
    (formula table : List ℕ) (display : Bool) (work output : List ℕ) → converted formula table display all_tall work output ≡ converted_with_rust_sizing formula table display work output
unfolding converted typst_to_latex convert_syntax
converted-as-rust-sizing formula table display work output =
    ap (λ size. admitted_without_field formula table work then latex_with_sizing size (definitions_or table) display then fitting output) (fun_ext sizing-as-rust)

pub rust-sizing-call :
    {formula table work output work' output' : List ℕ} {display : Bool} {answer : Result ℕ} → Call formula table display all_tall work output answer work' output'
    → (let rust = converted_with_rust_sizing formula table display work output in (answer ≡ answer_of rust) × ((work' ≡ work_after rust work) × (output' ≡ output_after rust output)))
rust-sizing-call {formula} {table} {work} {output} {display = display} c = call-as c (converted-as-rust-sizing formula table display work output)

-- ---- the display off
admitted-known : (formula table : List ℕ) (field : ℕ) (work : List ℕ) → field ≤ all_tall → admitted formula table field work ≡ admitted_without_field formula table work
admitted-known formula table field work h =
    ap {A = Bool} {B = Result (List ℕ)} (λ b. elim (ltb (length work) least_work) as (λ _. Result (List ℕ)) [ true ↦ refused 4 | false ↦ elim b as (λ _. Result (List ℕ)) [ true ↦ refused 15 | false ↦ checked formula table ] ])
    (le-ltb all_tall field h)

pub undisplayed-same :
    (formula table : List ℕ) (field field' : ℕ) (work output : List ℕ) → field ≤ all_tall → field' ≤ all_tall
    → converted formula table false field work output ≡ converted formula table false field' work output
unfolding converted typst_to_latex convert_syntax
undisplayed-same formula table field field' work output h h' =
    ap (λ r. r then typst_to_latex (definitions_or table) false field then fitting output) (admitted-known formula table field work h ∙ sym (admitted-known formula table field' work h'))
