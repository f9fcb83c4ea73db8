-- `table::record_at` meets its contract at the table's end. Assumes nothing.
use mathlib.Core.Path.{sym}
use Rattle.spec.specs.Table.{form_of}
use Rattle.table.specs.Reading.{read-end}
use Rattle.table.proofs.record_at.Goals as goal

pub returns-then-table-at : goal.returns-then-table-at
returns-then-table-at c = record { read = sym (read-end (form_of c.args.table.now) c.args.table.now c.args.at c.if-table-at.true); stands = tt }
