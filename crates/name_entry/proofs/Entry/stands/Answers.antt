-- `name_entry::Entry::stands` meets its contract, by its tests in order. Assumes nothing.
use mathlib.Core.Path.{sym, ap, ap₂, ◌∙◌}
use Rattle.spec.specs.Symbols.{starts}
use Rattle.text_symbols.specs.Parts.{rest_of}
use Rattle.name_entry.specs.Bounded.{allowed, stands-met, behind-at}
use Rattle.name_entry.proofs.Entry.stands.Goals as goal

pub returns : goal.returns
returns c =
    c.is_allowed.ensures
    ∙ ap₂ (allowed c.args.self.now.bounds) c.symbol_before.ensures (c.symbol-behind.ensures ∙ behind-at c.args.self.now.pattern.now c.args.s.now c.args.i)
    ∙ stands-met c.args.self.now.bounds c.args.self.now.pattern.now _ _ (ap (starts c.args.self.now.pattern.now) (sym (rest_of c.args.i c.args.s.now)) ∙ sym c.starts_with.ensures ∙ c.if-not-starts_with.false)
