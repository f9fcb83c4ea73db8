-- What is left to write, before what has been written, makes the text of the number. The measure is the start.
use Rattle.std.proofs.Common.{◌≡◌, length}
use Rattle.plain_short.specs.Spelling.{Spelling}
use Rattle.plain_short.proofs.spelling.spell.Given as goal

abbrev pub invariant-loop-left : goal.invariant-loop-left
invariant-loop-left l = Spelling l.number l.left l.start l.text × (length l.text ≡ length l.initial.text)

abbrev pub decreases-loop-left : goal.decreases-loop-left
decreases-loop-left l = l.start
