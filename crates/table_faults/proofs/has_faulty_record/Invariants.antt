-- `table_faults::has_faulty_record` meets its contract. The loop's invariant: the records from `at` on decide. Assumes nothing.
use Rattle.table.specs.Reading.{first_place}
use Rattle.table.specs.Listed.{listed}
use Rattle.spec.specs.Table.{faulty}
use lib.ListN.{length}
use mathlib.Core.Path.{◌≡◌}
use Prim.Native.Nat.{◌-◌}
use Rattle.table_faults.proofs.has_faulty_record.Given as goal

abbrev pub invariant-loop-found : goal.invariant-loop-found
invariant-loop-found l = faulty (listed l.table (first_place l.table)) ≡ faulty (listed l.table l.at)

abbrev pub decreases-loop-found : goal.decreases-loop-found
decreases-loop-found l = length l.table - l.at
