-- `text_closing::find_closer` meets its contract. The loop's invariant: the symbols passed have not closed the bracket, and the rest decides. Assumes nothing.
use Rattle.text_closing.specs.Closing.{Tallied}
use Rattle.text_closing.proofs.find_closer.Given as goal

abbrev pub invariant-loop-i : goal.invariant-loop-i
invariant-loop-i l = Tallied l.opener l.closer l.s l.tally l.i
