-- What has been printed is in the buffer.
use Rattle.plain_short.specs.Printed.{PrintedRoom}
use Rattle.plain_short.proofs.try_all.Given as goal

abbrev pub invariant-loop-number : goal.invariant-loop-number
invariant-loop-number g l = PrintedRoom l.printed l.tally.used
