-- `alignment::put_lines` meets its contract. The loop's invariant: what has been written and what is to be written from place i on are the whole.
-- Assumes nothing.
use Rattle.alignment.specs.Aligned.{lined-end, lines_more, lines-few}
use Rattle.alignment.specs.Breaks.{piece}
use Rattle.text.specs.Filling.{filling-none, filling-all}
use Rattle.text_symbols.specs.Parts.{part}
use Rattle.text.specs.Writer.{Appended, appended-more, appended-long}
use lib.ListN.{get_or}
use mathlib.Core.Path.{refl, ◌∙◌}
use Prim.Native.Nat.{◌+◌}
use native.Mathlib.Omega.{arith}
use Rattle.alignment.proofs.put_lines.Goals as goal
use Rattle.alignment.proofs.put_lines.Goals.{then-is_break, else-is_break}

pub loop-i-init : goal.loop-i-init
loop-i-init c = (refl, omega arith, filling-none _ _ _)

pub loop-i-preserved : goal.loop-i-preserved
loop-i-preserved c =
    let b = get_or c.loop-i.work (c.args.source.at + c.loop-i.i) 0 in
    let put : Appended c.loop-i.work c.put-total-in-loop-i.new.work c.loop-i.total c.put-total-in-loop-i.result (piece b c.is_break.result) =
    elim c.if-is_break.branch [
      | then-is_break w ↦ rw w.if-is_break.true (appended-more w.put-total.ensures (rw (w.work-is, w.total-is) at c.put-total-in-loop-i.ensures))
      | else-is_break w ↦ rw w.if-is_break.false (rw (w.work-is, w.total-is) at c.put-total-in-loop-i.ensures)
    ] in
    let few = lines-few c.requires.regions c.loop-i.invariant.2 c.loop-i-test.true c.requires.lines_within.1 c.is_break.ensures put in
    (appended-long put ∙ c.loop-i.invariant.0, omega arith, lines_more c.requires.regions c.loop-i.invariant.2 c.loop-i-test.true c.requires.lines_within.1 c.is_break.ensures put)

pub shape_of-work : goal.shape_of-work
shape_of-work c = c.loop-i.invariant.0

pub returns : goal.returns
returns c =
    record {
      appended = filling-all c.loop-i.invariant.2 (lined-end (part c.args.source.at c.args.source.n c.args.work.now) c.args.lines.end c.loop-i.i (omega arith));
      few = omega arith;
    }
