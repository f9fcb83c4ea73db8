-- `call_quotes::Quotes::step` meets its contract, by its tests and by what the search for the next quote ensures. Assumes nothing.
use Rattle.call_quotes.specs.Quotes.{next-contains}
use mathlib.Core.Path.{◌∙◌}
use Rattle.call_quotes.proofs.Quotes.step.Goals as goal

pub returns-then-not-self : goal.returns-then-not-self
returns-then-not-self c = rw (c.if-s-i-ne34.false, c.if-not-self.true) (c.is_some.ensures ∙ next-contains _ c.next_quote.ensures)
