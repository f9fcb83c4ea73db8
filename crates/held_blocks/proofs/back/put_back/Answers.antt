-- `held_blocks::back::put_back` meets its contract. The invariant is `Returning`, at place i. Assumes nothing.
use native.Mathlib.Omega.{arith}
use mathlib.Core.Path.{refl}
use Rattle.held_blocks.specs.Filing.{text-appended}
use Rattle.held_blocks.specs.Back.{returning-none, returning-all, filed-now, returning-mark, returning-other}
use Rattle.held_blocks.proofs.back.put_back.Goals as goal
use Rattle.held_blocks.proofs.back.put_back.Goals.{then-b-mark, else-b-mark}

pub loop-i-init : goal.loop-i-init
loop-i-init c = rw c.new-out.ensures (refl, returning-none _ _ _ _ _ _)

pub put_block-out-requires-clause-filed : goal.put_block-out-requires-clause-filed
put_block-out-requires-clause-filed c = filed-now c.requires c.loop-i.invariant.1 c.loop-i-test.true c.if-b-mark.true

pub loop-i-preserved : goal.loop-i-preserved
loop-i-preserved c =
    let inv = c.loop-i.invariant in
    elim c.if-b-mark.branch [
      | then-b-mark w ↦ (let a = text-appended inv.0 w.put_block-out.ensures in
          rw (w.work-is, w.out-is, w.k-is) (a.0, returning-mark c.requires inv.1 c.loop-i-test.true w.if-b-mark.true a.1))
      | else-b-mark w ↦ (let a = text-appended inv.0 w.put-out.ensures in
          rw (w.work-is, w.out-is, w.k-is) (a.0, returning-other c.requires inv.1 c.loop-i-test.true w.if-b-mark.false a.1))
    ]

pub returns : goal.returns
returns c = returning-all c.requires c.loop-i.invariant.1 (omega arith)
