-- `fractions::next_round` meets its contract, by the round and the comparison. Assumes nothing.
use Rattle.fractions.specs.Settle.{step-barred, step-longer, step_same, step-changed}
use Rattle.std.proofs.Common.{rules}
use Rattle.fractions.proofs.next_round.Goals as goal

pub returns-in_err-count : goal.returns-in_err-count
returns-in_err-count c = step-barred c.requires c.convert_regular_fractions.ensures c.in_err-count.was c.from_residual.result c.from_residual.ensures.0

pub returns-then-count-n : goal.returns-then-count-n
returns-then-count-n c = step-longer c.requires c.convert_regular_fractions.ensures c.in_ok-count.was c.if-count-n.true

pub returns-then-eq : goal.returns-then-eq
returns-then-eq c = step_same c.requires c.convert_regular_fractions.ensures c.in_ok-count.was c.if-count-n.false {b = c.eq.result} (search rules) c.if-eq.true

pub returns : goal.returns
returns c = step-changed c.requires c.convert_regular_fractions.ensures c.in_ok-count.was c.if-count-n.false {b = c.eq.result} (search rules) c.if-eq.false
