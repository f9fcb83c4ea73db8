-- `name_tables::apply_rows` meets its contract. The loop's invariant: the other rows are left to be applied, and what is seen is of the text as
-- it is. Assumes nothing.
use Rattle.std.proofs.Common.{◌∙◌, ap}
use Rattle.name_entry.specs.Seen.{marked-seen}
use Rattle.name_entry.specs.Sized.{remaining-ready}
use Rattle.name_tables.specs.Kinds.{fair_row, row-fair, row-left-fair, row-nowhere, rows-left-more, rows-left-none}
use Rattle.name_tables.proofs.apply_rows.Goals as goal

pub loop-row-preserved-then-is_nowhere : goal.loop-row-preserved-then-is_nowhere
loop-row-preserved-then-is_nowhere g c =
    let left = c.loop-row.invariant.0 in let row_of = g.R.NameRow.row_of in let row = c.row-item.result in
    let fair = row-fair _ (row-left-fair row_of c.args.table.now c.loop-row.row-index row c.requires.fair c.loop-row-test.true) in
    let none = rw (c.is_nowhere.ensures, c.typst.ensures, c.row-item.is) at c.if-is_nowhere.true in
    let passed = row-nowhere c.args.bounds _ c.args.extra fair (remaining-ready left.remaining c.requires.ready) left.remaining.within none in
    (rows-left-more left row c.loop-row-test.true passed, c.loop-row.invariant.1)

pub apply_row-done-requires-clause-fair : goal.apply_row-done-requires-clause-fair
apply_row-done-requires-clause-fair g c =
    ap (λ row. fair_row (g.R.NameRow.row_of row)) c.row-item.is
    ∙ row-left-fair g.R.NameRow.row_of c.args.table.now c.loop-row.row-index c.row-item.result c.requires.fair c.loop-row-test.true

pub loop-row-preserved : goal.loop-row-preserved
loop-row-preserved g c =
    let applied = c.apply_row-done.ensures in
    let staged = rw c.row-item.is at applied.staged_within in
    let untouched = rw c.row-item.is at applied.untouched in
    (rows-left-more c.loop-row.invariant.0 c.row-item.result c.loop-row-test.true (staged, untouched), marked-seen c.mark-in-loop-row.ensures)

pub returns : goal.returns
returns g c =
    let all = rows-left-none c.loop-row.invariant.0 c.loop-row-test.false in record { staged_within = all.0; untouched = all.1 }
