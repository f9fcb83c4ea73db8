-- Document 01's starred cases, of calls of the entry with all five commands tall: the table is `starred` in crates/spec/specs/Starred.antt. Assumes nothing.
--     Gives            what a call answers and leaves, where it puts out a given LaTeX
--     call-gives       so does every call on a formula that is admitted and converted to that LaTeX, if both buffers are long enough
--     starred-calls    the whole table: every call on the formula of a row
use Rattle.std.specs.Prelude.{◌≡◌, refl, Bool, false, List, [], ◌∷◌, ◌++◌, map, ℕ, ◌≤◌, ltb, length, drop, replicate}
use Rattle.std.proofs.Math.Path.{ap}
use Rattle.std.proofs.Common.{◌∙◌, le-ltb}
use Rattle.std.proofs.Math.Bool.{true}
use Rattle.spec.specs.Symbols.{foreign, any}
use Rattle.spec.specs.Result.{passed, ◌then◌}
use Rattle.spec.specs.Rows.{Row}
use Rattle.spec.specs.Finish.{all_tall}
use Rattle.spec.specs.Pipeline.{most_formula, least_work, definitions_or, checked, admitted, typst_to_latex, fitting, converted, answer_of, output_after, work_after, Call}
use Rattle.spec.specs.Starred.{starred, starred-hold}
use Rattle.plain_printing.specs.Calls.{NoRecords}
use Rattle.plain_printing.proofs.Calls.{none_or}
use Rattle.entry_ends.specs.Answer.{meaning, means-done}
use Rattle.entry_ends.specs.Answer.{Answer}
use Rattle.std.specs.Prelude.{Ok}

pub record Gives (latex work output : List ℕ) (answer : Answer) (work' output' : List ℕ) : Type 0 where
  pub answers : answer ≡ Ok (length latex)
  pub clears : work' ≡ replicate (length work) 0
  pub writes : output' ≡ latex ++ drop (length latex) output

-- ---- a call on one formula
module _ (formula latex : List ℕ) (short : ltb most_formula (length formula) ≡ false) (native : any foreign formula ≡ false)
    (converts : typst_to_latex [] true all_tall formula ≡ passed latex) (table : List ℕ) (empty : NoRecords table) (work output : List ℕ) (wide : least_work ≤ length work) (room : length latex ≤ length output) where
  admits : admitted formula table all_tall work ≡ passed formula
  admits = rw (le-ltb (length work) least_work wide, admitted, short, checked, native, empty)

  fits : fitting output latex ≡ passed latex
  fits = rw (le-ltb (length output) (length latex) room)

  gives : converted formula table true all_tall work output ≡ passed latex
  unfolding converted
  gives =
      ap (λ r. r then typst_to_latex (definitions_or table) true all_tall then fitting output) admits
      ∙ ap (λ ds. typst_to_latex ds true all_tall formula then fitting output) (none_or table empty)
      ∙ ap (λ r. r then fitting output) converts
      ∙ fits

  pub call-gives : {answer : Answer} {work' output' : List ℕ} → Call formula table true all_tall work output (meaning answer) work' output' → Gives latex work output answer work' output'
  call-gives {answer} c =
      record {
        answers = means-done answer (c.answers ∙ ap answer_of gives);
        clears = c.clears ∙ ap (λ r. work_after r work) gives;
        writes = c.writes ∙ ap (λ r. output_after r output) gives;
      }

-- ---- the table
infix 4 ◌∈◌
pub data ◌∈◌ (r : Row) : List Row → Type 0 where
  here : {rs : List Row} → r ∈ (r ∷ rs)
  there : {s : Row} {rs : List Row} → r ∈ rs → r ∈ (s ∷ rs)

-- what a computed test says of a table, it says of each row
at_row : {A : Type 0} (f g : Row → A) {r : Row} {rs : List Row} → r ∈ rs → map f rs ≡ map g rs → f r ≡ g r
at_row f g here e = cc
at_row f g (there m) e = at_row f g m cc

abbrev overlong : Row → Bool
overlong r = ltb most_formula (length r.typst)

abbrev alien : Row → Bool
alien r = any foreign r.typst

abbrev never : Row → Bool
never r = false

starred-short : map overlong starred ≡ map never starred
starred-short = refl

starred-native : map alien starred ≡ map never starred
starred-native = refl

pub starred-calls : {r : Row} → r ∈ starred
    → {table work output work' output' : List ℕ} {answer : Answer} → NoRecords table → least_work ≤ length work → length r.latex ≤ length output
    → Call r.typst table true all_tall work output (meaning answer) work' output'
    → Gives r.latex work output answer work' output'
starred-calls {r} m {table} {work} {output} empty wide room =
    call-gives r.typst r.latex (at_row overlong never m starred-short) (at_row alien never m starred-native)
    (at_row (λ (r : Row). typst_to_latex [] true all_tall r.typst) (λ (r : Row). passed r.latex) m starred-hold) table empty work output wide room
