-- `cases::put_branches` meets its contract. The loop's invariant: the branches before `start` have been appended. Assumes nothing.
use Rattle.spec.specs.Result.{most_symbols}
use Rattle.spec.specs.Closing.{over_quotes}
use Rattle.call_quotes.specs.Quotes.{Sees}
use Rattle.cases.specs.Cases.{Branching}
use Rattle.text_symbols.specs.Parts.{part}
use lib.ListN.{length}
use mathlib.Core.Path.{◌≡◌}
use Prim.Native.Nat.{◌+◌, ◌-◌, ◌≤◌}
use Rattle.cases.proofs.put_branches.Given as goal

abbrev pub invariant-loop-start : goal.invariant-loop-start
invariant-loop-start l =
    record {
      within : l.start ≤ l.n + 1;
      long : length l.work ≡ length l.initial.work;
      branching : Branching (part l.from l.n l.initial.work) l.initial.work l.work l.initial.written l.written l.later l.start;
      sees : Sees (over_quotes (part l.from l.n l.initial.work)) (part l.from l.n l.initial.work) l.start l.quotes.quoted;
    }

abbrev pub decreases-loop-start : goal.decreases-loop-start
decreases-loop-start l = l.n + 1 - l.start
