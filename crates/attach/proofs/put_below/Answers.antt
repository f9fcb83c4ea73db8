-- `attach::put_below` meets its contract: three appends in a row are one. Assumes nothing.
use Rattle.text.specs.Writer.{appended-more, appended-part, appended-long}
use Rattle.attach.specs.Subscript.{subscript-short}
use native.Mathlib.Omega.{arith}
use Rattle.attach.proofs.put_below.Goals as goal

pub put_all-requires : goal.put_all-requires
put_all-requires c =
    let b = c.put_subscript-filled.ensures in
    let l = appended-long c.put_all-opened.ensures in let m = appended-long b in let p = c.put_all-opened.ensures.same-place in let q = c.put_all-opened.ensures.same-cap in let p' = b.same-place in let q' = b.same-cap in
    let few = subscript-short c.args.source.at c.args.source.n b in
    record { region = omega arith; small = omega arith }

pub returns : goal.returns
returns c =
    let a = c.put_all-opened.ensures in
    let b = c.put_subscript-filled.ensures in
    let same = appended-part a c.args.source.at c.args.source.n c.requires.apart in
    let few = subscript-short c.args.source.at c.args.source.n b in
    (appended-more (appended-more a (rw same at b)) c.put_all.ensures, omega arith)
