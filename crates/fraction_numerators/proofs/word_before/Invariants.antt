-- `fraction_numerators::word_before` meets its contract. The loop's invariant: the search from here is the search from the start. Assumes nothing.
use Rattle.text_symbols.specs.Places.{before}
use Rattle.spec.specs.Fractions.{word_before}
use lib.ListN.{get_or}
use mathlib.Core.Path.{◌≡◌}
use Rattle.fraction_numerators.proofs.word_before.Given as goal

abbrev pub invariant-loop-i : goal.invariant-loop-i
invariant-loop-i l = word_before (get_or l.s l.last 0) (before l.s l.last) ≡ word_before (get_or l.s l.i 0) (before l.s l.i)
