-- `binom::put_parted` meets its contract: the arguments are trimmed where they stand, and written. Assumes nothing.
use Rattle.binom.specs.Binom.{arguments-parted, arguments-few}
use native.Mathlib.Omega.{arith}
use Rattle.binom.proofs.put_parted.Goals as goal

pub returns : goal.returns
returns c =
    let p = c.args.parts in
    let a = c.trim-first.ensures in
    let b = c.trim-second.ensures in
    let few = arguments-few c.args.work.now c.args.inside p.k p.comma c.requires.k_in_bounds.1 a b in
    (rw (arguments-parted c.args.work.now c.args.inside p.k p.comma c.requires.k_in_bounds.1 a b) at c.put_binom.ensures, omega arith)
