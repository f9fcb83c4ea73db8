-- What stages ask of a text, if there is one. Assumes nothing.
--     Bare          it holds no mark of a held block
--     Admissible    and number 3 lets its table pass
use Rattle.std.specs.Prelude.{◌≡◌, false, List, ℕ}
use Rattle.std.proofs.Math.Option.{some}
use Rattle.spec.specs.Result.{Result, passed}
use Rattle.spec.specs.Table.{definitions}
use Rattle.spec.specs.Pipeline.{definitions_or}
use Rattle.held_laws.specs.Marks.{has_mark}

pub record Bare (r : Result (List ℕ)) : Type 0 where
  pub unmarked : (s : List ℕ) → r ≡ passed s → has_mark s ≡ false

pub record Admissible (table : List ℕ) (r : Result (List ℕ)) : Type 0 where
  pub bare : Bare r
  pub sound : (s : List ℕ) → r ≡ passed s → definitions table ≡ some (definitions_or table)
