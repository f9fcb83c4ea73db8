-- `name_entry::presence::Pairs::mark_pairs` meets its contract. The loop's invariant: the pairs of the rest are left to be marked. Assumes nothing.
use Rattle.std.proofs.Common.{◌≡◌}
use Rattle.name_entry.specs.Seen.{Marking}
use Rattle.name_entry.proofs.presence.Pairs.mark_pairs.Given as goal

abbrev pub invariant-loop-w : goal.invariant-loop-w
invariant-loop-w l = (l.w-iterator.size ≡ 2) × Marking l.initial.self.seen l.self.seen l.s l.w-iterator.rest.now
