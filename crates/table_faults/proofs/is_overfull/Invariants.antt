-- `table_faults::is_overfull` meets its contract. The loop's invariant: the records from `at` on decide, with those counted. Assumes nothing.
use Rattle.table_faults.specs.Faults.{overfull}
use Rattle.spec.specs.Table.{form_of, records_in, records}
use lib.ListN.{drop}
use mathlib.Core.Path.{◌≡◌}
use Rattle.table_faults.proofs.is_overfull.Given as goal

abbrev pub invariant-loop-count : goal.invariant-loop-count
invariant-loop-count l = overfull 0 (records l.table) ≡ overfull l._count (records_in (form_of l.table) (drop l.at l.table))
