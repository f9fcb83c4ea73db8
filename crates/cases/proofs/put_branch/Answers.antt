-- `cases::put_branch` meets its contract: one append, or two that are one. Assumes nothing.
use Rattle.text.specs.Writer.{appended-more, appended-part}
use Rattle.cases.proofs.put_branch.Goals as goal

pub returns-then-later : goal.returns-then-later
returns-then-later c =
    let a = c.put_all-parted.ensures in
    let same = appended-part a c.args.from c.args.k c.requires.apart in
    rw c.if-later.true (appended-more a (rw same at c.copy.ensures))

pub returns : goal.returns
returns c =
    rw c.if-later.false c.copy-2.ensures
