-- `text_search::find` meets its contract. The loop's invariant: the pattern is found from place i on where it is found at all. Assumes nothing.
use Rattle.spec.specs.Symbols.{find}
use lib.ListN.{length, drop}
use mathlib.Core.Path.{◌≡◌}
use Prim.Native.Nat.{◌-◌, ◌≤◌}
use Rattle.text_search.proofs.find.Given as goal

abbrev pub invariant-loop-i : goal.invariant-loop-i
invariant-loop-i l = (l.i ≤ length l.s) × (find l.pattern l.s ≡ find l.pattern (drop l.i l.s))

abbrev pub decreases-loop-i : goal.decreases-loop-i
decreases-loop-i l = length l.s - l.i
