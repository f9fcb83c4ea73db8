-- `lr::rewrite_lr` meets its contract. The loop's invariant is that of a sweep, at place i, and no bare delimiter has been reached. Assumes nothing.
use Rattle.lr.specs.Reached.{comes}
use Rattle.spec.specs.Finish.{lr, bare_delimiter}
use Rattle.spec.specs.Sweep.{reached}
use Rattle.text_symbols.specs.Parts.{part}
use Rattle.text.specs.Sweep.{Sweeping}
use mathlib.Core.Path.{◌≡◌}
use Prim.Native.Nat.{◌-◌}
use Rattle.lr.proofs.rewrite_lr.Given as goal

abbrev pub invariant-loop-i : goal.invariant-loop-i
invariant-loop-i l =
    Sweeping lr l.initial.work l.work l.from l.n l.initial.out l.out l.i
    × (reached bare_delimiter lr 0 0 (part l.from l.n l.initial.work) ≡ comes bare_delimiter lr (part l.from l.n l.initial.work) l.i)

abbrev pub decreases-loop-i : goal.decreases-loop-i
decreases-loop-i l = l.n - l.i
