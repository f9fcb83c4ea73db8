-- `table_names::find_named` meets its contract. The loop's invariant: the records from `at` on decide. Assumes nothing.
use Rattle.table_names.specs.Named.{named_here, named-behind, name-tested}
use mathlib.Core.Path.{sym, ◌∙◌}
use Rattle.table_names.proofs.find_named.Goals as goal

pub returns-then-eq : goal.returns-then-eq
returns-then-eq c =
    record { part = sym (c.loop-found.invariant ∙ named_here c.in-Some.ensures.0 c.args.name.now (name-tested c.args.name.now c.name_in.result.now c.eq.ensures c.name_in.ensures c.if-eq.true)); stands = (c.in-Some.ensures.0.lies, c.in-Some.ensures.1) }

pub loop-found-preserved : goal.loop-found-preserved
loop-found-preserved c = c.loop-found.invariant ∙ named-behind c.in-Some.ensures.0 c.args.name.now (name-tested c.args.name.now c.name_in.result.now c.eq.ensures c.name_in.ensures c.if-eq.false)
