-- `fractions::settle` meets its contract. The loop's invariant: k rounds have changed the text, and the rounds that are left decide. Assumes nothing.
use Rattle.std.specs.Prelude.{Ok}
use Rattle.fractions.specs.Settle.{going-last, going_settled, going-barred, going-refused, going-judged}
use mathlib.Core.Path.{ap, ◌∙◌}
use native.Mathlib.Omega.{arith}
use Rattle.std.proofs.lemmas.Result.{err_from_is_err_and}
use Rattle.fractions.proofs.settle.Goals as goal

pub returns-in_err-count : goal.returns-in_err-count
returns-in_err-count c =
    let p = err_from_is_err_and c.from_residual.result c.from_residual.ensures.1 in
    rw (p.1, p.2) (going-barred c.loop-k.invariant c.next_round.ensures (omega arith) c.in_err-count.was)

pub returns-in_default : goal.returns-in_default
returns-in_default c = going_settled c.loop-k.invariant c.next_round.ensures (omega arith) (c.in_ok-count.was ∙ ap Ok c.in_default.is)

pub returns-in_err-text : goal.returns-in_err-text
returns-in_err-text c =
    let p = err_from_is_err_and c.from_residual-in_err-text.result c.from_residual-in_err-text.ensures.1 in
    rw (p.1, p.2) (going-refused c.loop-k.invariant c.next_round.ensures (omega arith) (c.in_ok-count.was ∙ ap Ok c.in-Some.is) (rw c.new.ensures at c.finished.ensures) c.in_err-text.was)

pub loop-k-preserved : goal.loop-k-preserved
loop-k-preserved c = going-judged c.loop-k.invariant c.next_round.ensures (omega arith) (c.in_ok-count.was ∙ ap Ok c.in-Some.is) (rw c.new.ensures at c.finished.ensures) c.in_ok-text.was

pub returns : goal.returns
returns c = going-last c.loop-k.invariant (omega arith) c.last_round.ensures
