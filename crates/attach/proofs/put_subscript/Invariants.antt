-- `attach::put_subscript` meets its contract. The loop's invariant is that of a sweep, at place i. Assumes nothing.
use Rattle.text_search.specs.Half.{half_work}
use Rattle.attach.specs.Weight.{commas}
use Rattle.text.specs.Sweep.{Sweeping}
use Prim.Native.Nat.{◌-◌}
use Rattle.attach.proofs.put_subscript.Given as goal

abbrev pub invariant-loop-i : goal.invariant-loop-i
invariant-loop-i l = Sweeping commas l.initial.work l.work l.from l.n l.initial.written l.written l.i

abbrev pub decreases-loop-i : goal.decreases-loop-i
decreases-loop-i l = l.n - l.i
