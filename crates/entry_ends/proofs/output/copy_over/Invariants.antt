-- `entry_ends::output::copy_over` meets its contract: so much of the source stands before the rest of the target.
-- Assumes nothing.
use mathlib.Core.Path.{◌≡◌}
use mathlib.Core.List.{◌++◌}
use Prim.Native.Nat.{◌-◌, ◌≤◌}
use lib.ListN.{length, take, drop}
use Rattle.entry_ends.proofs.output.copy_over.Given as goal

abbrev pub invariant-loop-i : goal.invariant-loop-i
invariant-loop-i l =
    (l.target ≡ take l.i l.source ++ drop l.i l.initial.target) × (l.i ≤ length l.source) × (length l.target ≡ length l.initial.target)
