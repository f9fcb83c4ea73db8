-- `pattern_rewriting::rewrite` meets its contract. The loop's invariant is that of a sweep, at place i. Assumes nothing.
use Rattle.pattern_rewriting.specs.Edits.{rule-waits}
use Rattle.pattern_rewriting.specs.Turns.{edit-step, edit-room, written-here, copied-here}
use Rattle.text.specs.Sweep.{sweeping-none, sweeping-all, sweeping-gap}
use mathlib.Core.Path.{refl}
use native.Mathlib.Omega.{arith}
use Rattle.pattern_rewriting.proofs.rewrite.Goals as goal

pub loop-i-init : goal.loop-i-init
loop-i-init c = (refl, sweeping-none _ c.requires.regions)

-- a symbol is copied, and then what stands before the pattern
pub loop-i-preserved-in_default : goal.loop-i-preserved-in_default
loop-i-preserved-in_default c =
    let copied = copied-here c.loop-i.invariant.1 c.loop-i-test.true (c.edit_at.ensures c.args.rewriting.left.now) c.in_default.is c.copy_one-out.ensures in
    (refl, sweeping-gap copied c.gap-gap.ensures (omega arith) (rule-waits c.args.rewriting.kind c.args.rewriting.pattern.now c.args.rewriting.left.now) c.copy-out.ensures)

pub put_edit-out-requires : goal.put_edit-out-requires
put_edit-out-requires c =
    let asked = edit-room c.loop-i.invariant.1 c.loop-i-test.true (c.edit_at.ensures c.args.rewriting.left.now) c.in-Some.is c.requires.pattern_texts_fit.short in
    record { room = asked.0; kept_in_bounds = asked.1; apart = asked.2 }

pub overflow_add-i-in-loop-i : goal.overflow_add-i-in-loop-i
overflow_add-i-in-loop-i c = let step = edit-step c.loop-i.invariant.1 c.loop-i-test.true (c.edit_at.ensures c.args.rewriting.left.now) c.in-Some.is in omega arith

pub loop-i-smaller : goal.loop-i-smaller
loop-i-smaller c = let step = edit-step c.loop-i.invariant.1 c.loop-i-test.true (c.edit_at.ensures c.args.rewriting.left.now) c.in-Some.is in omega arith

pub loop-i-preserved : goal.loop-i-preserved
loop-i-preserved c =
    (refl, written-here c.loop-i.invariant.1 c.loop-i-test.true (c.edit_at.ensures c.args.rewriting.left.now) c.in-Some.is c.requires.pattern_texts_fit.short c.put_edit-out.ensures)

pub shape_of-work : goal.shape_of-work
shape_of-work c = c.loop-i.invariant.1.long

pub returns : goal.returns
returns c = sweeping-all c.loop-i.invariant.1 (omega arith)
