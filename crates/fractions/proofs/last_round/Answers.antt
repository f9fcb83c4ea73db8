-- `fractions::last_round` meets its contract. Assumes nothing.
use Rattle.std.specs.Prelude.{Ok}
use Rattle.fractions.specs.Settle.{last-unchanged, last-changed, last-barred}
use mathlib.Core.Path.{ap, ◌∙◌}
use Rattle.fractions.proofs.last_round.Goals as goal

pub returns-in-Ok-None : goal.returns-in-Ok-None
returns-in-Ok-None c = last-unchanged c.requires c.next_round.ensures (c.in-Ok-None.is ∙ ap Ok c.in-Ok-None.field-0-is)

pub returns-in-Ok-Some : goal.returns-in-Ok-Some
returns-in-Ok-Some c = last-changed c.requires c.next_round.ensures (c.in-Ok-Some.is ∙ ap Ok c.in-Ok-Some.field-0-is)

pub returns-in-Err : goal.returns-in-Err
returns-in-Err c = last-barred c.requires c.next_round.ensures c.in-Err.is
