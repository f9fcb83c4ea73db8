-- `table_order::next` meets its contract. The loop's invariant: the first of what is left is the sooner of what has been chosen and the first
-- of those from `at` on. Assumes nothing.
use mathlib.Core.Path.{sym, ◌∙◌}
use Rattle.table_order.specs.Order.{choosing-none, choosing-found}
use Rattle.table_order.proofs.next.Goals as goal

pub loop-found-preserved-then-is_left : goal.loop-found-preserved-then-is_left
loop-found-preserved-then-is_left c = (
  c.loop-found.invariant.0
      ∙ choosing-found c.args.table.now c.args.last c.loop-found.best c.loop-found.at c.in-Some.found
      c.in-Some.ensures.0.first (sym c.is_left.ensures ∙ c.if-is_left.true) c.sooner.ensures,
  c.sooner.ensures.stands,
)

pub returns : goal.returns
returns c =
    record {
      first = c.loop-found.invariant.0 ∙ choosing-none c.args.table.now c.args.last c.loop-found.best c.loop-found.at c.in_default.ensures;
      stands = c.loop-found.invariant.1;
    }
