-- `name_tables::apply_rows` meets its contract. The loop's invariant: the other rows are left to be applied, and what is seen is of the text as
-- it is. Assumes nothing.
use Rattle.name_entry.specs.Seen.{SeenIn}
use Rattle.name_tables.specs.Kinds.{RowsLeft}
use Rattle.name_tables.proofs.apply_rows.Given as goal

abbrev pub invariant-loop-row : goal.invariant-loop-row
invariant-loop-row g l =
    RowsLeft g.R.NameRow.row_of l.initial.work l.work l.initial.done l.done l.extra l.bounds l.table l.row-index × SeenIn l.pairs.seen l.work l.done
