-- `attach::put_underset` meets its contract: three appends in a row are one. Assumes nothing.
use Rattle.text.specs.Writer.{appended-more, appended-part, appended-long}
use Rattle.attach.specs.Subscript.{copied-long}
use native.Mathlib.Omega.{arith}
use Prim.Native.Nat.{◌+◌, ◌-◌}
use Rattle.attach.proofs.put_underset.Goals as goal

pub returns : goal.returns
returns c =
    let base = c.args.arguments.base in
    let at = c.args.from + base.start in
    let m = base.end - base.start in
    let a = c.put_below-opened.ensures in
    let b = c.copy-filled.ensures in
    let l = appended-long a.0 in
    let same = appended-part a.0 at m c.requires.base_regions.regions.apart in
    let n = copied-long at m (omega arith) b in
    (appended-more (appended-more a.0 (rw same at b)) c.put_all.ensures, omega arith)
