-- `call_quotes::next_quote` meets its contract. The loop's invariant: no symbol passed is a quote. Assumes nothing.
use Rattle.call_quotes.specs.Quotes.{quote}
use Rattle.spec.specs.Laws.Symbols.{drop-step, find-here, find-drop, find-end}
use Rattle.spec.specs.Symbols.{starts}
use lib.ListN.{get_or, drop, length-drop}
use mathlib.Core.Path.{sym, ap, ◌∙◌}
use Prim.Native.Char.{code}
use native.Mathlib.Omega.{arith}
use borrow.Author.Tests.{eq-eqb, ne_eqb}
use Rattle.call_quotes.proofs.next_quote.Goals as goal

pub returns-then-s-k-eq34 : goal.returns-then-s-k-eq34
returns-then-s-k-eq34 c =
    let s = c.args.s.now in
    let k = c.loop-k.k in
    let d = length-drop k s in
    let here = ap (starts quote) (drop-step s k (omega arith)) ∙ eq-eqb (get_or s k 0) (code "\"") c.if-s-k-eq34.true in
    record { within = omega arith; found = sym (c.loop-k.invariant ∙ find-here quote (drop k s) (omega arith) here) }

pub loop-k-preserved : goal.loop-k-preserved
loop-k-preserved c =
    let s = c.args.s.now in
    let k = c.loop-k.k in
    let other = ap (starts quote) (drop-step s k (omega arith)) ∙ ne_eqb (get_or s k 0) (code "\"") c.if-s-k-eq34.false in
    c.loop-k.invariant ∙ find-drop quote s k (omega arith) other

pub returns : goal.returns
returns c = record { within = omega arith; found = sym (c.loop-k.invariant ∙ find-end quote c.args.s.now c.loop-k.k (omega arith)) }
