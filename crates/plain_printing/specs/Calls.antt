-- What is said of calls on plain formulas, with display on and a table of no records. Assumes nothing.
--     NoRecords         the table has no records
--     latex_of          the LaTeX of a plain formula under a tall field
--     WithinLimits      no limit of document 01 is passed
use Rattle.std.specs.Prelude.{◌≡◌, List, [], ℕ, ◌≤◌, length}
use Rattle.std.proofs.Math.Option.{some}
use Rattle.spec.specs.Result.{most_symbols}
use Rattle.spec.specs.Table.{definitions}
use Rattle.spec.specs.Fractions.{most_rounds}
use Rattle.spec.specs.Finish.{all_tall}
use Rattle.spec.specs.Pipeline.{least_work}
use Rattle.spec.specs.Grammar
use Rattle.spec.specs.Grammar.{Plain}

-- ---- a table of no records
abbrev pub NoRecords : List ℕ → Type 0
NoRecords table = definitions table ≡ some []

-- ---- the answer of a call
abbrev pub latex_of : ℕ → {formula : List ℕ} → Plain formula → List ℕ
latex_of field p = Grammar.latex field p.sum

-- what numbers 4, 15, 7, 5 and 10 ask of a call on a plain formula: where it holds, and only there, no number refuses the call
pub record WithinLimits (field : ℕ) {formula : List ℕ} (p : Plain formula) (work output : List ℕ) : Type 0 where
  pub work-wide : least_work ≤ length work
  pub field-small : field ≤ all_tall
  pub shallow : Grammar.height p.sum ≤ most_rounds
  pub latex-short : length (latex_of field p) ≤ most_symbols
  pub output-long : length (latex_of field p) ≤ length output
