-- `pattern_rewriting::is_matched` meets its contract: a search from place to place. Assumes nothing.
use Prim.Native.Nat.{◌-◌}
use lib.ListN.{length}
use Rattle.text_search.specs.Matched.{Searching}
use Rattle.pattern_rewriting.specs.Edits.{pattern_at}
use Rattle.pattern_rewriting.proofs.is_matched.Given as goal

abbrev pub invariant-loop-i : goal.invariant-loop-i
invariant-loop-i l = Searching (pattern_at l.rewriting.kind l.rewriting.pattern.now) l.s l.start l.i

abbrev pub decreases-loop-i : goal.decreases-loop-i
decreases-loop-i l = length l.s - l.i
