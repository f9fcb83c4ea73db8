-- `fractions::convert_fractions` meets its contract. Assumes nothing.
use Rattle.fractions.specs.Settle.{staged-slashless}
use Rattle.fractions.proofs.convert_fractions.Goals as goal

pub returns-in_default : goal.returns-in_default
returns-in_default c = staged-slashless c.due_for.ensures c.in_default.is
