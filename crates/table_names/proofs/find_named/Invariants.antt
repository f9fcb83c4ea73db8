-- `table_names::find_named` meets its contract. The loop's invariant: the records from `at` on decide. Assumes nothing.
use Rattle.table.specs.Listed.{listed}
use Rattle.spec.specs.Table.{form_of}
use Rattle.spec.specs.WordAt.{latex_place}
use lib.ListN.{length}
use mathlib.Core.Path.{◌≡◌}
use Prim.Native.Nat.{◌-◌}
use Rattle.table_names.proofs.find_named.Given as goal

abbrev pub invariant-loop-found : goal.invariant-loop-found
invariant-loop-found l = latex_place (form_of l.table) l.name l.from (listed l.table l.from) ≡ latex_place (form_of l.table) l.name l.at (listed l.table l.at)

abbrev pub decreases-loop-found : goal.decreases-loop-found
decreases-loop-found l = length l.table - l.at
