-- `definitions::apply_definition` meets its contract, by its test. Assumes nothing.
use Rattle.definitions.specs.Applying.{record-fair, one-byte-skipped, applied}
use Rattle.definitions.proofs.apply_definition.Goals as goal

pub returns-then-pattern-eq1-clause-staged_within : goal.returns-then-pattern-eq1-clause-staged_within
returns-then-pattern-eq1-clause-staged_within c =
    one-byte-skipped c.requires.usable (rw c.name_in-pattern.ensures at c.if-pattern-eq1.true) c.requires.ready c.requires.fits_with_blocks

pub apply-requires-clause-entry_texts_fit : goal.apply-requires-clause-entry_texts_fit
apply-requires-clause-entry_texts_fit c = rw (c.name_in-pattern.ensures, c.latex_in.ensures) (record-fair c.requires.usable)

pub returns : goal.returns
returns c =
    let both = applied c.requires.usable (rw c.name_in-pattern.ensures at c.if-pattern-eq1.false)
    (rw (c.name_in-pattern.ensures, c.latex_in.ensures) at c.apply.ensures.staged_within, rw c.name_in-pattern.ensures at c.apply.ensures.untouched) in
    record { staged_within = both.0; untouched = both.1 }
