-- `binom::rewrite_binoms` meets its contract. The loop's invariant is that of a sweep, at place i. Assumes nothing.
use Rattle.spec.specs.Result.{most_symbols}
use Rattle.text.specs.Sweep.{Sweeping}
use Rattle.spec.specs.Calls.{binom}
use Prim.Native.Nat.{◌-◌}
use Rattle.binom.proofs.rewrite_binoms.Given as goal

abbrev pub invariant-loop-i : goal.invariant-loop-i
invariant-loop-i l = Sweeping binom l.initial.work l.work l.from l.n l.initial.out l.out l.i

abbrev pub decreases-loop-i : goal.decreases-loop-i
decreases-loop-i l = l.n - l.i
