-- `table::listed_at` meets its contract, by what was read at the place. Assumes nothing.
use Rattle.std.proofs.Common.{sym, subst}
use Rattle.table.specs.Listed.{Listed, listed-read}
use Rattle.table.proofs.listed_at.Goals as goal

pub returns : goal.returns
returns c = subst (Listed c.args.table.now c.args.at) (sym c.unwrap_or.ensures) (listed-read c.record_at.ensures)
