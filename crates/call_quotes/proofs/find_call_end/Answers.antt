-- `call_quotes::find_call_end` meets its contract, as `find_closer` does: the text is the one that is seen, and the search stands outside quotes.
-- Assumes nothing.
use Rattle.text_closing.specs.Closing.{stepped, tallied-none, tallied-past, tallied-deep, tallied-here, tallied-more, tallied-end}
use Rattle.call_quotes.specs.Quotes.{sees-all, seen_here, sees-past, closes-past, uncounted}
use lib.ListN.{get_or}
use mathlib.Core.Path.{ap, ◌∙◌}
use Prim.Native.Nat.{◌+◌}
use Prim.Native.Char.{code}
use native.Mathlib.Omega.{arith}
use borrow.Author.Tests.{ne_eqb}
use Rattle.call_quotes.proofs.find_call_end.Goals as goal

pub loop-i-init : goal.loop-i-init
loop-i-init c = rw c.new-tally.ensures (tallied-none _ _ _, sees-all _ _)

-- a symbol out of range
pub loop-i-preserved-then-b : goal.loop-i-preserved-then-b
loop-i-preserved-then-b c =
    let i = c.loop-i.i in
    let inv = c.loop-i.invariant in
    let other = uncounted (get_or c.args.s.now i 0) c.if-b.true in
    (tallied-past inv.0 (i + 1) (omega arith) (omega arith) (closes-past inv.1 (omega arith) other.no-parenthesis), sees-past inv.1 (omega arith) other.no-quote)

pub loop-i-preserved-then-b-eq34 : goal.loop-i-preserved-then-b-eq34
loop-i-preserved-then-b-eq34 c =
    let inv = c.loop-i.invariant in
    let past = c.past_quotes-i.ensures in
    (tallied-past inv.0 c.past_quotes-i.result past.later (omega arith) (past.closes inv.1), past.sees inv.1)

pub returns-then-tally-eq-GREATEST : goal.returns-then-tally-eq-GREATEST
returns-then-tally-eq-GREATEST c =
    tallied-deep c.loop-i.invariant.0 c.if-tally-eq-GREATEST.true (omega arith)

pub returns-then-tally-eq0 : goal.returns-then-tally-eq0
returns-then-tally-eq0 c =
    let inv = c.loop-i.invariant in
    tallied-here inv.0 (omega arith) (c.step-tally.ensures ∙ ap (stepped c.loop-i.tally) (seen_here inv.1 (omega arith))) c.if-tally-eq0.true

pub loop-i-preserved : goal.loop-i-preserved
loop-i-preserved c =
    let inv = c.loop-i.invariant in (
      tallied-more inv.0 (omega arith) (c.step-tally.ensures ∙ ap (stepped c.loop-i.tally) (seen_here inv.1 (omega arith))) (omega arith) (omega arith),
      sees-past inv.1 (omega arith) (ne_eqb (get_or c.args.s.now c.loop-i.i 0) (code "\"") c.if-b-eq34.false),
    )

pub returns : goal.returns
returns c = tallied-end c.loop-i.invariant.0 (omega arith)
