-- `attach::attach_once` meets its contract: where there is nothing to rewrite the text is left as it is, and else it is written to the other half. Assumes nothing.
use Rattle.attach.specs.Turns.{turned-absent, turned-unclosed, turned-not, turned-to}
use Rattle.attach.proofs.attach_once.Goals as goal

pub returns-in_err-i : goal.returns-in_err-i
returns-in_err-i c = rw c.from_residual.ensures (turned-absent c.requires c.find.ensures c.in_err-i.was)

pub returns-in_default : goal.returns-in_default
returns-in_default c = turned-unclosed c.requires c.find.ensures c.in_ok-i.was c.call_at.ensures c.in_default.is

pub returns-in_err-arguments : goal.returns-in_err-arguments
returns-in_err-arguments c =
    rw c.from_residual-in_err-arguments.ensures (turned-not c.requires c.find.ensures c.in_ok-i.was c.call_at.ensures c.in-Some.is c.attachment_of.ensures c.in_err-arguments.was)

pub returns : goal.returns
returns c =
    let o = c.other_half-to.ensures in
    rw o (turned-to c.requires c.find.ensures c.in_ok-i.was c.call_at.ensures c.in-Some.is c.attachment_of.ensures c.in_ok-arguments.was (rw o at c.rewrite_attach-written.ensures))
