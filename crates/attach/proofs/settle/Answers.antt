-- `attach::settle` meets its contract, by the two places of the text. Assumes nothing.
use mathlib.Core.Path.{ap}
use Rattle.text.specs.declared.writer.Writer.{Writer}
use Rattle.attach.specs.Settled.{settled-low, settled-high}
use Rattle.attach.proofs.settle.Goals as goal

pub returns-then-at-lt-HALF : goal.returns-then-at-lt-HALF
returns-then-at-lt-HALF c =
    let lower = ap (λ (o : Writer). record { to = o.to; cap = o.cap; count = c.args.place.n }) c.new.ensures in
    settled-low c.requires c.if-at-lt-HALF.true lower c.finished.ensures

pub returns : goal.returns
returns c = settled-high c.requires (rw c.new-2.ensures at c.copy.ensures) c.finished-2.ensures
