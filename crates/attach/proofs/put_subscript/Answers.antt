-- `attach::put_subscript` meets its contract. The loop's invariant is that of a sweep, at place i. Assumes nothing.
use Rattle.attach.specs.Subscript.{comma-replaced, symbol-kept}
use Rattle.text.specs.Sweep.{sweeping-none, sweeping-all}
use Rattle.spec.specs.Sweep.{replace}
use native.Mathlib.Omega.{arith}
use Rattle.attach.proofs.put_subscript.Goals as goal

pub loop-i-init : goal.loop-i-init
loop-i-init c = sweeping-none _ c.requires

pub loop-i-preserved-then-starts_with : goal.loop-i-preserved-then-starts_with
loop-i-preserved-then-starts_with c =
    comma-replaced c.loop-i.invariant (omega arith) c.starts_with.ensures c.if-starts_with.true c.put_all-written.ensures

pub loop-i-preserved : goal.loop-i-preserved
loop-i-preserved c =
    symbol-kept c.loop-i.invariant (omega arith) c.starts_with.ensures c.if-starts_with.false c.copy_one-written.ensures

pub returns : goal.returns
unfolding replace
returns c = sweeping-all c.loop-i.invariant (omega arith)
