-- `text::writer::Writer::put_all` meets its contract. Past the capacity nothing is stored. The loop's invariant: the bytes before its place have been appended. Assumes nothing.
use Prim.Native.Nat.{◌≤◌}
use native.Mathlib.Omega.{arith}
use lib.ListN.{length}
use lib.Seq.{take_all}
use Rattle.text.specs.Writer.{appended-none, appended-past, next-room, next-appended}
use Rattle.text.proofs.writer.Writer.put_all.Goals as goal

pub returns-then-self : goal.returns-then-self
returns-then-self c = appended-past c.args.bytes.now c.args.work.now c.args.self c.if-self.true

pub loop-b-init : goal.loop-b-init
loop-b-init c = appended-none _ _

pub put-end-requires : goal.put-end-requires
put-end-requires c = next-room _ c.loop-b.b-index c.loop-b.invariant (omega arith) c.requires

pub loop-b-preserved : goal.loop-b-preserved
loop-b-preserved c = next-appended _ c.loop-b.b-index c.loop-b.invariant (omega arith) c.put-end.ensures

pub returns : goal.returns
returns c =
    let bytes = c.args.bytes.now in
    let all : length bytes ≤ c.loop-b.b-index = omega arith in
    rw (← take_all c.loop-b.b-index bytes all) c.loop-b.invariant
