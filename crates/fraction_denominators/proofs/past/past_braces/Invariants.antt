-- `fraction_denominators::past::past_braces` meets its contract. The loop's invariant: the search from here is the search from the start. Assumes nothing.
use Rattle.fraction_operands.specs.Places.{Place}
use Rattle.spec.specs.Fractions.{braces}
use Prim.Native.Nat.{◌-◌, ◌≤◌}
use lib.ListN.{length, drop}
use mathlib.Core.Path.{◌≡◌}
use Rattle.fraction_denominators.proofs.past.past_braces.Given as goal

abbrev pub invariant-loop-i : goal.invariant-loop-i
invariant-loop-i l = (l.start ≤ l.i) × Place l.s l.i × (braces 0 (drop l.start l.s) ≡ braces 0 (drop l.i l.s))

abbrev pub decreases-loop-i : goal.decreases-loop-i
decreases-loop-i l = length l.s - l.i
