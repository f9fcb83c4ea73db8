-- `text_search::contains` meets its contract, by what `find` finds. Assumes nothing.
use Rattle.std.proofs.Common.{◌∙◌}
use Rattle.text_search.specs.Search.{contains-found}
use Rattle.text_search.proofs.contains.Goals as goal

pub returns : goal.returns
returns c = c.is_some.ensures ∙ contains-found c.args.pattern.now c.args.s.now c.find.ensures
