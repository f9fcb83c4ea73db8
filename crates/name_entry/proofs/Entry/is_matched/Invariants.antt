-- `name_entry::Entry::is_matched` meets its contract: a search from place to place. Assumes nothing.
use Prim.Native.Nat.{◌-◌}
use lib.ListN.{length}
use Rattle.text_search.specs.Matched.{Searching}
use Rattle.name_entry.specs.Bounded.{bounded_at}
use Rattle.name_entry.proofs.Entry.is_matched.Given as goal

abbrev pub invariant-loop-i : goal.invariant-loop-i
invariant-loop-i l = Searching (bounded_at l.self.bounds l.self.pattern.now) l.s l.start l.i

abbrev pub decreases-loop-i : goal.decreases-loop-i
decreases-loop-i l = length l.s - l.i
