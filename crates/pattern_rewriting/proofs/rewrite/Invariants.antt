-- `pattern_rewriting::rewrite` meets its contract. The loop's invariant is that of a sweep, at place i. Assumes nothing.
use Rattle.pattern_rewriting.specs.Edits.{pattern_rule}
use Rattle.text.specs.Sweep.{Sweeping}
use mathlib.Core.Path.{◌≡◌}
use Prim.Native.Nat.{◌+◌, ◌-◌}
use Rattle.pattern_rewriting.proofs.rewrite.Given as goal

abbrev pub invariant-loop-i : goal.invariant-loop-i
invariant-loop-i l = (l.end ≡ l.from + l.n) × Sweeping (pattern_rule l.rewriting.kind l.rewriting.pattern.now l.rewriting.left.now) l.initial.work l.work l.from l.n l.initial.out l.out l.i

abbrev pub decreases-loop-i : goal.decreases-loop-i
decreases-loop-i l = l.n - l.i
