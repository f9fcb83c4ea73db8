-- `thin_spaces::drop_gaps` meets its contract. The loop's invariant: what has been written and what is to be written from place i on are the whole.
-- Assumes nothing.
use Rattle.thin_spaces.specs.Thin.{thinning-none, thinning-all, gap_more, gap_if, symbol-more}
use Rattle.text.specs.Writer.{Appended, appended-none}
use mathlib.Core.Path.{refl}
use native.Mathlib.Omega.{arith}
use Rattle.thin_spaces.proofs.drop_gaps.Goals as goal
use Rattle.thin_spaces.proofs.drop_gaps.Goals.{then-keeps_gap, else-keeps_gap}

pub loop-i-init : goal.loop-i-init
loop-i-init c = (refl, thinning-none c.args.work.now c.args.source.at c.args.source.n c.args.out)

pub loop-i-preserved-then-starts_with : goal.loop-i-preserved-then-starts_with
loop-i-preserved-then-starts_with c =
    let put : Appended c.loop-i.work c.if-keeps_gap.work c.loop-i.out c.if-keeps_gap.out (gap_if c.keeps_gap.result) =
    elim c.if-keeps_gap.branch [
      | then-keeps_gap w ↦ rw (w.if-keeps_gap.true, w.work-is, w.out-is) w.put_all-out.ensures
      | else-keeps_gap w ↦ rw (w.if-keeps_gap.false, w.work-is, w.out-is) (appended-none _ _)
    ] in
    (refl, gap_more c.requires c.loop-i.invariant.1 c.loop-i-test.true c.starts_with.ensures c.keeps_gap.result c.if-starts_with.true c.keeps_gap.ensures put)

pub loop-i-preserved : goal.loop-i-preserved
loop-i-preserved c =
    (refl, symbol-more c.requires c.loop-i.invariant.1 c.loop-i-test.true c.starts_with.ensures c.if-starts_with.false c.copy_one-out.ensures)

pub shape_of-work : goal.shape_of-work
shape_of-work c = c.loop-i.invariant.1.long

pub returns : goal.returns
returns c = thinning-all c.requires c.loop-i.invariant.1 (omega arith)
