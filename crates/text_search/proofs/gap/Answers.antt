-- `text_search::gap` meets its contract, by what the search finds. Assumes nothing.
use Rattle.std.proofs.Common.{sym, subst}
use Rattle.text_search.specs.Search.{Gap, gap-found}
use Rattle.text_search.proofs.gap.Goals as goal

pub returns : goal.returns
returns c = subst (Gap c.args.pattern.now c.args.s.now) (sym c.unwrap_or.ensures) (gap-found c.args.pattern.now c.args.s.now c.find.ensures)
