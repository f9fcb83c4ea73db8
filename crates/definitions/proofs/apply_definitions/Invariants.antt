-- `definitions::apply_definitions` meets its contract. The loop's invariant: the definitions from the cursor on are left. Assumes nothing.
use mathlib.Core.Path.{◌≡◌}
use mathlib.Core.List.{List}
use mathlib.Core.Option.{some}
use lib.ListN.{length}
use Rattle.spec.specs.Table.{Definition, definitions}
use Rattle.table_order.specs.Order.{Reached, remaining}
use Rattle.definitions.specs.Applying.{DefinitionsLeft}
use Rattle.definitions.proofs.apply_definitions.Given as goal

abbrev pub invariant-loop-found : goal.invariant-loop-found
invariant-loop-found l =
    Reached l.table l.cursor × ((ds : List Definition) → definitions l.table ≡ some ds → DefinitionsLeft l.table l.cursor ds l.extra l.initial.work l.work l.initial.done l.done)

abbrev pub decreases-loop-found : goal.decreases-loop-found
decreases-loop-found l = length (remaining l.table l.cursor)
