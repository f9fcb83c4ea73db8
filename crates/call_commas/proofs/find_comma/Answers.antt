-- `call_commas::find_comma` meets its contract. The loop's invariant: no comma passed is at the top level, and the rest, as it is seen, decides. Assumes nothing.
use Rattle.call_commas.specs.Searched.{searched-none, searched-letter, searched-quote, searched-here, searched-more, searched-end}
use mathlib.Core.Path.{refl}
use native.Mathlib.Omega.{arith}
use borrow.Author.Tests.{eq-eqb, ne_eqb}
use Rattle.call_commas.proofs.find_comma.Goals as goal

pub loop-i-init : goal.loop-i-init
loop-i-init c = searched-none _ _ c.new-balance.ensures

pub loop-i-preserved-then-b : goal.loop-i-preserved-then-b
loop-i-preserved-then-b c =
    searched-letter c.loop-i.invariant (omega arith) c.if-b.true

pub loop-i-preserved-then-b-eq34 : goal.loop-i-preserved-then-b-eq34
loop-i-preserved-then-b-eq34 c =
    searched-quote c.loop-i.invariant (omega arith) (eq-eqb _ _ c.if-b-eq34.true) c.step-quotes.ensures

pub returns-then-b-balance : goal.returns-then-b-balance
returns-then-b-balance c =
    searched-here c.loop-i.invariant (omega arith) (ne_eqb _ _ c.if-b-eq34.false) refl c.if-b-balance.true

pub loop-i-preserved : goal.loop-i-preserved
loop-i-preserved c =
    searched-more c.loop-i.invariant (omega arith) (ne_eqb _ _ c.if-b-eq34.false) c.if-b-balance.false (rw (← c.seen.ensures) c.step-balance.ensures)

pub returns : goal.returns
returns c = searched-end c.loop-i.invariant (omega arith)
