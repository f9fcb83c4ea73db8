-- `cases::put_branches` meets its contract. The loop's invariant: the branches before `start` have been appended. Assumes nothing.
use Rattle.spec.specs.Closing.{over_quotes}
use Rattle.call_quotes.specs.Quotes.{Sees, sees-all}
use Rattle.cases.specs.Cases.{branching-none, branching-blank, branching-more, branches-read, branch_read, branched-read}
use Rattle.text.specs.Writer.{appended-long}
use mathlib.Core.Path.{refl, sym, subst}
use Prim.Native.Nat.{◌-◌}
use native.Mathlib.Omega.{arith}
use Rattle.cases.proofs.put_branches.Goals as goal

pub loop-start-init : goal.loop-start-init
loop-start-init c = record { within = omega arith; long = refl; branching = branching-none _ _ _; sees = rw c.new-quotes.ensures (sees-all _ _) }

pub branch_at-branch-requires-clause-sees : goal.branch_at-branch-requires-clause-sees
branch_at-branch-requires-clause-sees c =
    let inv = c.loop-start.invariant in
    subst (λ s. Sees (over_quotes s) s c.loop-start.start c.loop-start.quotes.quoted) (sym (branches-read inv.branching.appended c.requires.0)) inv.sees

pub loop-start-preserved-then-k-eq0 : goal.loop-start-preserved-then-k-eq0
loop-start-preserved-then-k-eq0 c =
    let inv = c.loop-start.invariant in
    let branch = branched-read inv.branching.appended c.requires.0 c.branch_at-branch.ensures in
    record { within = omega arith; long = inv.long; branching = branching-blank inv.branching branch c.if-k-eq0.true; sees = branch.sees }

pub loop-start-preserved : goal.loop-start-preserved
loop-start-preserved c =
    let inv = c.loop-start.invariant in
    let branch = branched-read inv.branching.appended c.requires.0 c.branch_at-branch.ensures in
    let r = c.branch_at-branch.result.span in
    let read = branch_read inv.branching.appended c.requires.0 r.start (r.end - r.start) (omega arith) in
    let put = c.put_branch-written.ensures in
    record { within = omega arith; long = omega (arith, appended-long put); branching = branching-more inv.branching branch (omega arith) (rw read at put); sees = branch.sees }
