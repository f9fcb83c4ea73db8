-- `fraction_numerators::name_before` meets its contract. The loop's invariant: the search from here is the search from the start. Assumes nothing.
use Rattle.text_symbols.specs.Places.{before}
use Rattle.spec.specs.Fractions.{name_before}
use Prim.Native.Nat.{◌≤◌}
use lib.ListN.{length}
use mathlib.Core.Path.{◌≡◌}
use Rattle.fraction_numerators.proofs.name_before.Given as goal

abbrev pub invariant-loop-i : goal.invariant-loop-i
invariant-loop-i l = (l.i ≤ l.end) × (l.end ≤ length l.s) × (name_before 0 (before l.s l.end) ≡ name_before 0 (before l.s l.i))

abbrev pub decreases-loop-i : goal.decreases-loop-i
decreases-loop-i l = l.i
