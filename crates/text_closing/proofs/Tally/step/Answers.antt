-- `text_closing::Tally::step` meets its contract, by the two tests. Assumes nothing.
use native.Mathlib.Numerals.{add-one, sub-one}
use borrow.Author.Tests.{eq-eqb, ne_eqb}
use Rattle.text_closing.proofs.Tally.step.Goals as goal

pub returns-then-symbol-self : goal.returns-then-symbol-self
returns-then-symbol-self c = rw (eq-eqb _ _ c.if-symbol-self.true, add-one)

pub returns-then-symbol-self-2 : goal.returns-then-symbol-self-2
returns-then-symbol-self-2 c = rw (ne_eqb _ _ c.if-symbol-self.false, eq-eqb _ _ c.if-symbol-self-2.true, sub-one)

pub returns-else-symbol-self-2 : goal.returns-else-symbol-self-2
returns-else-symbol-self-2 c = rw (ne_eqb _ _ c.if-symbol-self.false, ne_eqb _ _ c.if-symbol-self-2.false)
