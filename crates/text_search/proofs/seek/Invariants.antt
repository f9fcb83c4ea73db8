-- `text_search::seek` meets its contract. The loop's invariant: the symbol does not stand from i up to k. Assumes nothing.
use Rattle.text_search.specs.Search.{Passed}
use Rattle.text_search.proofs.seek.Given as goal

abbrev pub invariant-loop-k : goal.invariant-loop-k
invariant-loop-k l = Passed l.s l.i l.b l.k
