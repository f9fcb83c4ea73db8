-- `name_entry::presence::Pairs::is_nowhere` meets its contract. Assumes nothing.
use Rattle.std.proofs.Common.{◌∙◌, sym}
use Rattle.name_entry.specs.Seen.{nowhere-missing}
use Rattle.name_entry.proofs.presence.Pairs.is_nowhere.Goals as goal

pub returns-then-is_missing : goal.returns-then-is_missing
returns-then-is_missing c =
    c.if-is_missing.true ∙ nowhere-missing c.args.work.now c.args.pattern.now c.in-Ok.is c.requires.seen_in (sym c.is_missing.ensures ∙ c.if-is_missing.true)
