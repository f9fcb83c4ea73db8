-- `table_faults::is_overfull` meets its contract. The loop's invariant: the records from `at` on decide, with those counted. Assumes nothing.
use Rattle.table_faults.specs.Faults.{overfull-whole, overfull-end, overfull-unreadable, overfull-many}
use Rattle.std.specs.Prelude.{Ok}
use mathlib.Core.Path.{sym, ap, ◌∙◌}
use native.Mathlib.Omega.{arith}
use Rattle.table_faults.proofs.is_overfull.Goals as goal

pub loop-count-preserved : goal.loop-count-preserved
loop-count-preserved c = c.loop-count.invariant ∙ overfull-whole c.args.table.now c.loop-count.at c.loop-count._count (sym c.in-Ok-Some.ensures.read ∙ ap Ok c.in-Ok-Some.field-0-is)

pub returns-in-Ok-None : goal.returns-in-Ok-None
returns-in-Ok-None c = sym (c.loop-count.invariant ∙ overfull-end c.args.table.now c.loop-count.at c.loop-count._count (omega arith) (sym c.in-Ok-None.ensures.read ∙ ap Ok c.in-Ok-None.field-0-is))

pub returns-in-Err : goal.returns-in-Err
returns-in-Err c = sym (c.loop-count.invariant ∙ overfull-unreadable c.args.table.now c.loop-count.at c.loop-count._count (sym c.in-Err.ensures.read))

pub returns : goal.returns
returns c = sym (c.loop-count.invariant ∙ overfull-many c.args.table.now c.loop-count.at c.loop-count._count (omega arith))
