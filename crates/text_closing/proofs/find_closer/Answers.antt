-- `text_closing::find_closer` meets its contract. The loop's invariant: the symbols passed have not closed the bracket, and the rest decides. Assumes nothing.
use Rattle.text_closing.specs.Closing.{tallied-none, tallied-deep, tallied-here, tallied-more, tallied-end}
use native.Mathlib.Omega.{arith}
use Rattle.text_closing.proofs.find_closer.Goals as goal

pub loop-i-init : goal.loop-i-init
loop-i-init c = rw c.new-tally.ensures (tallied-none _ _ _)

pub returns-then-tally-eq-GREATEST : goal.returns-then-tally-eq-GREATEST
returns-then-tally-eq-GREATEST c =
    tallied-deep c.loop-i.invariant c.if-tally-eq-GREATEST.true c.requires

pub returns-then-tally-eq0 : goal.returns-then-tally-eq0
returns-then-tally-eq0 c =
    tallied-here c.loop-i.invariant (omega arith) c.step-tally.ensures c.if-tally-eq0.true

pub loop-i-preserved : goal.loop-i-preserved
loop-i-preserved c =
    let below = c.loop-i.invariant.not-above in
    tallied-more c.loop-i.invariant (omega arith) c.step-tally.ensures (omega arith) (omega arith)

pub returns : goal.returns
returns c = tallied-end c.loop-i.invariant (omega arith)
