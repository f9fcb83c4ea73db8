-- `fraction_denominators::past::word_after` meets its contract. The loop's invariant: the search from here is the search from the start. Assumes nothing.
use Rattle.spec.specs.Fractions.{word_after}
use lib.ListN.{drop}
use mathlib.Core.Path.{◌≡◌}
use Rattle.fraction_denominators.proofs.past.word_after.Given as goal

abbrev pub invariant-loop-i : goal.invariant-loop-i
invariant-loop-i l = word_after 0 (drop l.start l.s) ≡ word_after l.previous (drop l.i l.s)
