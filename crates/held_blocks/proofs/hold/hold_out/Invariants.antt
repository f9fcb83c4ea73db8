-- `held_blocks::hold::hold_out` meets its contract. The invariant is `Holding`, at place i. Assumes nothing.
use Prim.Native.Nat.{◌-◌}
use mathlib.Core.Path.{◌≡◌}
use Rattle.held_blocks.specs.Filing.{text_from}
use Rattle.held_blocks.specs.HoldOut.{Holding}
use Rattle.held_blocks.proofs.hold.hold_out.Given as goal

abbrev pub invariant-loop-i : goal.invariant-loop-i
invariant-loop-i l =
    (l.out ≡ text_from l.to l.out.count)
    × Holding l.name l.mark l.initial.work l.work l.from l.n l.to l.initial.held.used l.initial.held.filed l.out.count l.held.used l.held.filed l.i

abbrev pub decreases-loop-i : goal.decreases-loop-i
decreases-loop-i l = l.n - l.i
