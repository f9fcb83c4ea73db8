-- `text::writer::Writer::copy` meets its contract. The loop's invariant: the first i bytes of the part have been appended. Assumes nothing.
use Prim.Native.Nat.{◌-◌, ◌≤◌}
use mathlib.Core.Path.{ap, ◌∙◌, sym}
use native.Mathlib.Omega.{arith}
use lib.ListN.{length, get_or}
use lib.Seq.{take_all}
use Rattle.text_symbols.specs.Parts.{part, length_part, get_d_part}
use Rattle.text.specs.Writer.{appended-none, next-room, next-appended, appended-part, appended-long}
use Rattle.text.proofs.writer.Writer.copy.Goals as goal

pub loop-i-init : goal.loop-i-init
loop-i-init c = appended-none _ _

pub copy_one-end-requires : goal.copy_one-end-requires
copy_one-end-requires c =
    let whole = length_part c.args.from c.args.n c.args.work.now (omega arith) in
    record { room = next-room _ c.loop-i.i c.loop-i.invariant (omega arith) (rw whole c.requires.room); at_in_bounds = omega arith }

pub loop-i-preserved : goal.loop-i-preserved
loop-i-preserved c =
    let whole = length_part c.args.from c.args.n c.args.work.now (omega arith) in
    let kept = appended-part c.loop-i.invariant c.args.from c.args.n c.requires.apart in
    let b = sym (get_d_part c.args.from c.args.n c.loop-i.work c.loop-i.i (omega arith)) ∙ ap (λ p. get_or p c.loop-i.i 0) kept in
    next-appended _ c.loop-i.i c.loop-i.invariant (omega arith) (rw b at c.copy_one-end.ensures)

pub returns : goal.returns
returns c =
    let whole = length_part c.args.from c.args.n c.args.work.now (omega arith) in
    let copied = part c.args.from c.args.n c.args.work.now in
    let all : length copied ≤ c.loop-i.i = omega arith in
    rw (← take_all c.loop-i.i copied all) c.loop-i.invariant
