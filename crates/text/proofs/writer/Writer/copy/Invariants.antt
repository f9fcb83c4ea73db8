-- `text::writer::Writer::copy` meets its contract. The loop's invariant: the first i bytes of the part have been appended. Assumes nothing.
use Prim.Native.Nat.{◌≤◌}
use mathlib.Core.Path.{◌≡◌}
use lib.ListN.{length, take}
use Rattle.text_symbols.specs.Parts.{part}
use Rattle.text.specs.Writer.{Appended}
use Rattle.text.proofs.writer.Writer.copy.Given as goal

abbrev pub invariant-loop-i : goal.invariant-loop-i
invariant-loop-i l = Appended l.initial.work l.work l.initial.end l.end (take l.i (part l.from l.n l.initial.work))
