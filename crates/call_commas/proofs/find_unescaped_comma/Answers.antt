-- `call_commas::find_unescaped_comma` meets its contract. The loop's invariant: every comma passed is escaped, and the rest decides. Assumes nothing.
use Rattle.call_commas.specs.Commas.{unescaped-here, unescaped-past, unescaped-end}
use Rattle.spec.specs.Laws.Symbols.{drop-step}
use Rattle.spec.specs.Closing.{unescaped_behind}
use lib.ListN.{get_or, drop}
use mathlib.Core.Path.{sym, ap, ◌∙◌}
use Prim.Native.Nat.{◌+◌}
use native.Mathlib.Omega.{arith}
use Rattle.call_commas.proofs.find_unescaped_comma.Goals as goal

pub returns-then-b-previous : goal.returns-then-b-previous
returns-then-b-previous c =
    let s = c.args.s.now in
    let i = c.loop-i.i in
    record {
      within = omega arith;
      left =
          sym (c.loop-i.invariant ∙ ap (unescaped_behind c.loop-i.previous) (drop-step s i (omega arith))
          ∙ unescaped-here c.loop-i.previous (get_or s i 0) (drop (i + 1) s) c.if-b-previous.true);
    }

pub loop-i-preserved : goal.loop-i-preserved
loop-i-preserved c =
    let s = c.args.s.now in
    let i = c.loop-i.i in
    c.loop-i.invariant ∙ ap (unescaped_behind c.loop-i.previous) (drop-step s i (omega arith))
    ∙ unescaped-past c.loop-i.previous (get_or s i 0) (drop (i + 1) s) c.if-b-previous.false

pub returns : goal.returns
returns c =
    record { within = omega arith; left = sym (c.loop-i.invariant ∙ unescaped-end c.loop-i.previous c.args.s.now c.loop-i.i (omega arith)) }
