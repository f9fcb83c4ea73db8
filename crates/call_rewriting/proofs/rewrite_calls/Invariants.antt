-- `call_rewriting::rewrite_calls` meets its contract. The loop's invariant is that of a sweep, at place i. Assumes nothing.
use Rattle.call_rewriting.specs.Delimiters.{delimited}
use Rattle.text.specs.Sweep.{Sweeping}
use Rattle.spec.specs.Closing.{over_quotes}
use Rattle.spec.specs.Calls.{calling}
use Prim.Native.Nat.{◌-◌}
use Rattle.call_rewriting.proofs.rewrite_calls.Given as goal

abbrev pub invariant-loop-i : goal.invariant-loop-i
invariant-loop-i l =
    Sweeping (calling over_quotes l.call.name.now (delimited l.call.trims l.call.left.now l.call.right.now)) l.initial.work l.work l.from l.n l.initial.out l.out l.i

abbrev pub decreases-loop-i : goal.decreases-loop-i
decreases-loop-i l = l.n - l.i
