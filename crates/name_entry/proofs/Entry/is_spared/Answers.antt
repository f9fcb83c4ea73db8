-- `name_entry::Entry::is_spared` meets its contract. Assumes nothing.
use mathlib.Core.Path.{ap₂, ◌∙◌}
use Rattle.name_entry.specs.Bounded.{left, behind-at}
use Rattle.name_entry.proofs.Entry.is_spared.Goals as goal

pub returns : goal.returns
returns c =
    c.is_left.ensures ∙ ap₂ (left c.args.self.now.bounds) c.symbol_before.ensures (c.symbol-behind.ensures ∙ behind-at c.args.self.now.pattern.now c.args.s.now c.args.i)
