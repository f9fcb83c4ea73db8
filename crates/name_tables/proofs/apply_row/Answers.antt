-- `name_tables::apply_row` meets its contract. Assumes nothing.
use Rattle.std.proofs.Common.{sym, subst₂}
use Rattle.name_entry.specs.Bounded.{EntryTextsFit}
use Rattle.name_tables.specs.Kinds.{row-fair, row-applied}
use Rattle.name_tables.proofs.apply_row.Goals as goal

pub apply-requires-clause-entry_texts_fit : goal.apply-requires-clause-entry_texts_fit
apply-requires-clause-entry_texts_fit g c =
    subst₂ EntryTextsFit (sym c.typst-pattern.ensures) (sym c.latex.ensures) (row-fair (g.R.NameRow.row_of c.args.row.now) c.requires.fair)

pub returns : goal.returns
returns g c =
    let chosen = rw c.typst-pattern.ensures at c.bounds_of.ensures in
    let staged = rw (c.typst-pattern.ensures, c.latex.ensures) at c.apply.ensures.staged_within in
    let untouched = rw c.typst-pattern.ensures at c.apply.ensures.untouched in
    let both = row-applied c.args.bounds (g.R.NameRow.row_of c.args.row.now) chosen staged untouched in record { staged_within = both.0; untouched = both.1 }
