-- The lengths of a case's parts. Assumes nothing.
use Rattle.std.specs.Prelude.{ℕ, ◌≤◌, Option, Some, None}
use Rattle.case_input.specs.declared.Case.{Case}

abbrev pub Limited : ℕ → ℕ → Option Case → Type 0
Limited most other (Some case) = (case.first ≤ most) × (case.second ≤ other)
Limited most other None = Unit {0}
