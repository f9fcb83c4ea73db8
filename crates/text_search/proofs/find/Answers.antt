-- `text_search::find` meets its contract. The loop's invariant: the pattern is found from place i on where it is found at all. Assumes nothing.
use Rattle.text_symbols.specs.Parts.{rest_of}
use Rattle.text_search.specs.Search.{find-passed}
use Rattle.spec.specs.Laws.Symbols.{find-here, find-end}
use Rattle.spec.specs.Symbols.{starts}
use lib.ListN.{drop, length-drop}
use mathlib.Core.Path.{refl, sym, ap, ◌∙◌}
use native.Mathlib.Omega.{arith}
use Rattle.text_search.proofs.find.Goals as goal

pub loop-i-init : goal.loop-i-init
loop-i-init c = (omega arith, refl)

pub returns-then-starts_with : goal.returns-then-starts_with
returns-then-starts_with c =
    let met = sym (c.starts_with.ensures ∙ ap (starts c.args.pattern.now) (rest_of c.loop-i.i c.args.s.now)) ∙ c.if-starts_with.true in
    record { within = omega arith; found = sym (c.loop-i.invariant.1 ∙ find-here _ (drop c.loop-i.i c.args.s.now) (simp length-drop (omega arith)) met) }

pub loop-i-smaller : goal.loop-i-smaller
loop-i-smaller c = let after = c.seek-i.ensures.passed.after in let within = c.seek-i.ensures.passed.within in omega arith

pub loop-i-preserved : goal.loop-i-preserved
loop-i-preserved c =
    let other = sym (c.starts_with.ensures ∙ ap (starts c.args.pattern.now) (rest_of c.loop-i.i c.args.s.now)) ∙ c.if-starts_with.false in
    (c.seek-i.ensures.passed.within, c.loop-i.invariant.1 ∙ find-passed c.args.pattern.now c.args.s.now c.symbol-first.ensures other (omega arith) c.seek-i.ensures.passed)

pub returns : goal.returns
returns c =
    record { within = omega arith; found = sym (c.loop-i.invariant.1 ∙ find-end _ c.args.s.now c.loop-i.i (omega arith)) }
