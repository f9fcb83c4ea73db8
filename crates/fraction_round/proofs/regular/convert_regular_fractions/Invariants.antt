-- `fraction_round::regular::convert_regular_fractions` meets its contract. The loop's invariant: i symbols have been read, the marks say which slashes
-- were left, and the rest of the symbols finish what has been written. Assumes nothing.
use Rattle.fraction_round.specs.Turn.{Converting}
use Prim.Native.Nat.{◌-◌}
use Rattle.fraction_round.proofs.regular.convert_regular_fractions.Given as goal

abbrev pub invariant-loop-i : goal.invariant-loop-i
invariant-loop-i l = Converting l.initial.work l.work l.from l.n l.to l.out l.marks l.scripts l.i

abbrev pub decreases-loop-i : goal.decreases-loop-i
decreases-loop-i l = l.n - l.i
