-- `binom::put_binom` meets its contract: three appends in a row are one. Assumes nothing.
use Rattle.text.specs.Writer.{appended-more, appended-part}
use Rattle.text_symbols.specs.Trim.{spanned}
use Rattle.spec.specs.Symbols.{bytes}
use mathlib.Core.List.{◌++◌}
use Prim.Native.Nat.{◌-◌}
use Rattle.binom.proofs.put_binom.Goals as goal

pub returns : goal.returns
returns c =
    let a = c.put_call-above.ensures in
    let b = c.args.second in
    let left = bytes "\\binom{" ++ spanned c.args.first c.args.work.now ++ bytes "}{" in
    let second = appended-part {bs = left} a b.start (b.end - b.start) c.requires.apart.1 in
    appended-more (appended-more {bs = left} a (rw second at c.copy-below.ensures)) c.put_all.ensures
