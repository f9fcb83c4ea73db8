-- `attach::attachment_of` meets its contract, by the comma, and what `trim` and `subscript_of` ensure. Assumes nothing.
use Rattle.attach.specs.Once.{attached-no-comma, attached-empty, attached-at}
use Rattle.attach.proofs.attachment_of.Goals as goal

pub returns-in_err-j : goal.returns-in_err-j
returns-in_err-j c =
    rw c.from_residual.ensures (attached-no-comma c.args.s.now c.args.start c.args.k c.requires c.find_unescaped_comma.ensures c.in_err-j.was)

pub returns-in_err-below : goal.returns-in_err-below
returns-in_err-below c =
    rw c.from_residual-in_err-below.ensures (attached-empty c.args.s.now c.args.start c.args.k c.requires c.find_unescaped_comma.ensures c.in_ok-j.was c.in_err-below.ensures)

pub returns : goal.returns
returns c =
    attached-at c.args.s.now c.args.start c.args.k c.requires c.find_unescaped_comma.ensures c.in_ok-j.was c.trim-base.ensures c.in_ok-below.ensures
