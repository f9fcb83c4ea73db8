-- `cases::put_cases` meets its contract: three appends in a row are one. Assumes nothing.
use Rattle.text.specs.Writer.{appended-more, appended-part}
use Rattle.spec.specs.Calls.{latex_cases}
use native.Mathlib.Omega.{arith}
use Rattle.cases.proofs.put_cases.Goals as goal

pub returns : goal.returns
unfolding latex_cases
returns c =
    let a = c.put_all-opened.ensures in
    let b = c.put_branches-filled.ensures in
    let same = appended-part a c.args.source.at c.args.source.n c.requires.0.apart in
    (appended-more (appended-more a (rw same at b.0)) c.put_all.ensures, omega arith)
