-- `fraction_numerators::script::is_inside_subscript_context` meets its contract. The loop's invariant: the search from here is the search from the start. Assumes nothing.
use Rattle.fraction_numerators.specs.Script.{scripting-opens, scripting-bare, scripting-past, scripting-end}
use native.Mathlib.Omega.{arith}
use Rattle.fraction_numerators.proofs.script.is_inside_subscript_context.Goals as goal

pub returns-then-opens_script : goal.returns-then-opens_script
returns-then-opens_script c =
    scripting-opens c.loop-i.invariant (omega arith) (omega arith) c.step-tally.ensures c.if-tally-eq0.true c.opens_script.ensures c.if-opens_script.true

pub loop-i-preserved-then-tally-eq0 : goal.loop-i-preserved-then-tally-eq0
loop-i-preserved-then-tally-eq0 c =
    rw c.new-tally-then-tally-eq0.ensures
    (scripting-bare c.loop-i.invariant (omega arith) (omega arith) c.step-tally.ensures c.if-tally-eq0.true c.opens_script.ensures c.if-opens_script.false)

pub loop-i-preserved : goal.loop-i-preserved
loop-i-preserved c = scripting-past c.loop-i.invariant (omega arith) (omega arith) c.step-tally.ensures (omega arith)

pub returns : goal.returns
returns c = scripting-end c.loop-i.invariant (omega arith)
