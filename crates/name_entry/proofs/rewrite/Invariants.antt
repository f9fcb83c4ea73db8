-- `name_entry::rewrite` meets its contract. The loop's invariant is that of a sweep, at place i. Assumes nothing.
use Prim.Native.Nat.{◌-◌}
use Rattle.text.specs.Sweep.{Sweeping}
use Rattle.name_entry.specs.Bounded.{bounded}
use Rattle.name_entry.proofs.rewrite.Given as goal

abbrev pub invariant-loop-i : goal.invariant-loop-i
invariant-loop-i l =
    Sweeping (bounded l.entry.bounds l.entry.pattern.now l.entry.fresh.now) l.initial.work l.work l.from l.n l.initial.out l.out l.i

abbrev pub decreases-loop-i : goal.decreases-loop-i
decreases-loop-i l = l.n - l.i
