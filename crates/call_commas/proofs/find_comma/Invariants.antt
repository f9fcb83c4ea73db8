-- `call_commas::find_comma` meets its contract. The loop's invariant: no comma passed is at the top level, and the rest, as it is seen, decides. Assumes nothing.
use Rattle.call_commas.specs.Searched.{Searched}
use Rattle.spec.specs.Closing.{seen_from}
use Rattle.call_commas.proofs.find_comma.Given as goal

abbrev pub invariant-loop-i : goal.invariant-loop-i
invariant-loop-i l = Searched (seen_from l.initial.quotes.quoted l.s) l.s l.balance l.quotes.quoted l.i
