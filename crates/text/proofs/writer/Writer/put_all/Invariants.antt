-- `text::writer::Writer::put_all` meets its contract. Past the capacity nothing is stored. The loop's invariant: the bytes before its place have been appended. Assumes nothing.
use lib.ListN.{take}
use Rattle.text.specs.Writer.{Appended}
use Rattle.text.proofs.writer.Writer.put_all.Given as goal

abbrev pub invariant-loop-b : goal.invariant-loop-b
invariant-loop-b l = Appended l.initial.work l.work l.initial.end l.end (take l.b-index l.bytes)
