-- `escapes::braces::open_groups` meets its contract, by the search that it makes. Assumes nothing.
use Rattle.std.proofs.Common.{rules}
use Rattle.escapes.specs.Braces.{top-found}
use Rattle.escapes.proofs.braces.open_groups.Goals as goal

pub returns : goal.returns
returns c = top-found c.args.s.now c.find_closer_back.ensures (search rules)
