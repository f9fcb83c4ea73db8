-- `quotes::rewrite_quotes` meets its contract. The loop's invariant: i symbols have been read, and `tail` is the end of what has been written. Assumes nothing.
use Rattle.quotes.specs.Quotes.{quoting-none, quoting-done, quoting-unclosed, turn-plain, turn-open, turn-within, turn-close}
use Rattle.text_symbols.specs.Parts.{length_part}
use native.Mathlib.Omega.{arith}
use Rattle.quotes.proofs.rewrite_quotes.Goals as goal

pub loop-i-init : goal.loop-i-init
loop-i-init c = (omega arith, quoting-none _ _ _ c.requires.fresh)

pub loop-i-preserved-then-b-ne34 : goal.loop-i-preserved-then-b-ne34
loop-i-preserved-then-b-ne34 c =
    (omega arith, rw c.step-tail.ensures (turn-plain c.requires.regions.0 c.loop-i.invariant.1 c.loop-i-test.true c.if-b-ne34.true c.put-out.ensures))

pub loop-i-preserved-then-not-quoted : goal.loop-i-preserved-then-not-quoted
loop-i-preserved-then-not-quoted c =
    (omega arith, rw c.new-tail.ensures (turn-open c.requires.regions.0 c.loop-i.invariant.1 c.loop-i-test.true c.if-b-ne34.false c.if-not-quoted.true c.put_opening-out.ensures))

pub loop-i-preserved-in_default : goal.loop-i-preserved-in_default
loop-i-preserved-in_default c =
    (omega arith, rw c.new-tail-in_default.ensures (turn-close c.requires.regions.0 c.loop-i.invariant.1 c.loop-i-test.true c.if-b-ne34.false c.if-not-quoted.false c.in_default.ensures c.put-out-in_default.ensures))

pub loop-i-preserved : goal.loop-i-preserved
loop-i-preserved c = (
  turn-within c.requires.regions.0 c.loop-i.invariant.1 c.loop-i-test.true c.if-b-ne34.false c.in-Some.ensures,
  rw c.new-tail-in-loop-i.ensures (turn-close c.requires.regions.0 c.loop-i.invariant.1 c.loop-i-test.true c.if-b-ne34.false c.if-not-quoted.false c.in-Some.ensures c.put_all-out.ensures),
)

pub shape_of-work : goal.shape_of-work
shape_of-work c = c.loop-i.invariant.1.wrote.long

pub returns-then-quoted : goal.returns-then-quoted
returns-then-quoted c =
    let l = length_part c.args.source.at c.args.source.n c.args.work.now c.requires.regions.0.source in
    quoting-unclosed c.loop-i.invariant.1 (omega arith) c.requires.regions.0.region c.if-quoted.true c.put.ensures

pub returns : goal.returns
returns c =
    let l = length_part c.args.source.at c.args.source.n c.args.work.now c.requires.regions.0.source in
    quoting-done c.loop-i.invariant.1 (omega arith) c.if-quoted.false
