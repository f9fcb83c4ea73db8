-- `name_entry::presence::Pairs::is_missing` meets its contract. The loop's invariant: the pairs of the rest decide. Assumes nothing.
use Rattle.std.proofs.Common.{◌≡◌}
use Rattle.name_entry.specs.Seen.{missing}
use Rattle.name_entry.proofs.presence.Pairs.is_missing.Given as goal

abbrev pub invariant-loop-w : goal.invariant-loop-w
invariant-loop-w l = (l.w-iterator.size ≡ 2) × (missing l.self.seen l.w-iterator.rest.now ≡ missing l.self.seen l.pattern)
