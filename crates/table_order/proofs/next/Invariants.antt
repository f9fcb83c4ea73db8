-- `table_order::next` meets its contract. The loop's invariant: the first of what is left is the sooner of what has been chosen and the first
-- of those from `at` on. Assumes nothing.
use mathlib.Core.Path.{◌≡◌}
use Prim.Native.Nat.{◌-◌}
use lib.ListN.{length}
use Rattle.spec.specs.Table.{in_order}
use Rattle.spec.specs.Laws.Selection.{first_of}
use Rattle.table.specs.Reading.{Stands, first_place}
use Rattle.table.specs.Listed.{listed}
use Rattle.table_order.specs.Order.{definitions_left, choosing}
use Rattle.table_order.proofs.next.Given as goal

abbrev pub invariant-loop-found : goal.invariant-loop-found
invariant-loop-found l =
    (first_of (in_order (definitions_left l.table l.last (listed l.table (first_place l.table)))) ≡ choosing l.table l.last l.best l.at) × Stands l.table l.best

abbrev pub decreases-loop-found : goal.decreases-loop-found
decreases-loop-found l = length l.table - l.at
