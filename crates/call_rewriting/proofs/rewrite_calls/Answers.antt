-- `call_rewriting::rewrite_calls` meets its contract. The loop's invariant is that of a sweep, at place i. Assumes nothing.
use Rattle.call_rewriting.specs.Delimiters.{call_fits, called-here, copied-here, argument-written, written-few}
use Rattle.text.specs.Sweep.{sweeping-none, sweeping-all}
use Rattle.text_symbols.specs.Parts.{part}
use Rattle.spec.specs.Calls.{convert_calls}
use lib.ListN.{length, drop, length-take}
use Prim.Native.Nat.{◌+◌, ◌-◌}
use native.Mathlib.Omega.{arith}
use Rattle.call_rewriting.proofs.rewrite_calls.Goals as goal

pub loop-i-init : goal.loop-i-init
loop-i-init c =
    sweeping-none _ c.requires.regions

pub loop-i-preserved-in_default : goal.loop-i-preserved-in_default
loop-i-preserved-in_default c =
    copied-here _ c.loop-i.invariant (omega arith) c.call_at.ensures c.in_default.is c.copy_one-out.ensures

pub loop-i-preserved : goal.loop-i-preserved
loop-i-preserved c =
    let call = c.args.call.now in
    let r = c.argument_of-inner.result in
    let sweeping = c.loop-i.invariant in
    let fits = call_fits sweeping (omega arith) c.call_at.ensures c.in-Some.is in
    let few = length-take (r.end - r.start) (drop (c.args.source.at + r.start) c.loop-i.work) in
    let written = argument-written call.trims call.left.now call.right.now (c.loop-i.i + length call.name.now) c.in-Some.k sweeping (omega arith) c.argument_of-inner.ensures in
    called-here _ sweeping c.loop-i-test.true c.call_at.ensures c.in-Some.is written (written-few c.requires.call_texts_fit (part (c.args.source.at + r.start) (r.end - r.start) c.loop-i.work) _ (omega (arith, few))) c.put_call-out.ensures

pub returns : goal.returns
unfolding convert_calls
returns c = sweeping-all c.loop-i.invariant (omega arith)
