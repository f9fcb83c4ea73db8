-- `attach::subscript_of` meets its contract, by the first `b:`. Assumes nothing.
use Rattle.attach.specs.Attach.{subscript-none, subscript-fits, subscript-at, subscript-empty}
use native.Mathlib.Omega.{arith}
use Rattle.attach.proofs.subscript_of.Goals as goal

pub returns-in_err-i : goal.returns-in_err-i
returns-in_err-i c = rw c.from_residual.ensures (subscript-none c.requires c.find.ensures c.in_err-i.was)

pub trim-after-requires : goal.trim-after-requires
trim-after-requires c =
    let f = subscript-fits c.requires c.find.ensures c.in_ok-i.was in
    record { order = omega arith; inside = omega arith }

pub returns-then-below : goal.returns-then-below
returns-then-below c =
    subscript-empty (subscript-at c.requires c.find.ensures c.in_ok-i.was c.trim-after.ensures c.bottom_of-below.ensures) c.if-below.true

pub returns : goal.returns
returns c =
    let narrowed = subscript-at c.requires c.find.ensures c.in_ok-i.was c.trim-after.ensures c.bottom_of-below.ensures in
    (narrowed, omega arith)
