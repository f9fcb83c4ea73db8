-- `name_entry::presence::Pairs::mark_pairs` meets its contract. The loop's invariant: the pairs of the rest are left to be marked. Assumes nothing.
use Rattle.std.proofs.Common.{arith}
use Rattle.name_entry.specs.Seen.{marking-all}
use Rattle.name_entry.proofs.presence.Pairs.mark_pairs.Goals as goal

pub returns : goal.returns
returns c = let short = c.in-None.ensures.steps.1.0 in marking-all c.loop-w.invariant.1 (omega arith)
