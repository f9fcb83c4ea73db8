-- `entry_ends::output::copy_over` meets its contract: so much of the source stands before the rest of the target.
-- Assumes nothing.
use mathlib.Core.Path.{refl, ap, ◌∙◌}
use mathlib.Core.List.{List}
use Prim.Native.Nat.{ℕ, ◌-◌}
use native.Mathlib.Omega.{arith}
use lib.ListN.{get_or, set, length-set}
use Rattle.entry_ends.proofs.Laws.{copy_more, copied_all}
use Rattle.entry_ends.proofs.output.copy_over.Goals as goal

pub loop-i-init : goal.loop-i-init
loop-i-init c = (refl, omega arith, refl)

pub loop-i-preserved : goal.loop-i-preserved
loop-i-preserved c = (
  ap (λ (l : List ℕ). set l c.loop-i.i (get_or c.args.source.now c.loop-i.i 0)) c.loop-i.invariant.0 ∙ copy_more c.loop-i.i c.args.source.now c.args.target.now (omega arith) (omega arith),
  omega arith,
  length-set c.loop-i.target c.loop-i.i _ ∙ c.loop-i.invariant.2,
)

pub returns : goal.returns
returns c =
    c.loop-i.invariant.0 ∙ copied_all c.loop-i.i c.args.source.now c.args.target.now (omega arith)
