-- `fraction_numerators::name_before` meets its contract. The loop's invariant: the search from here is the search from the start. Assumes nothing.
use Rattle.fraction_numerators.specs.Before.{name-stop, name-more, name-group, name-none}
use Rattle.text_symbols.specs.Places.{before-step, before-none}
use Rattle.spec.specs.Fractions.{name_before}
use borrow.Author.Tests.{eq-eqb, ne_eqb}
use mathlib.Core.Path.{sym, ap, ◌∙◌}
use native.Mathlib.Omega.{arith}
use Rattle.fraction_numerators.proofs.name_before.Goals as goal

pub returns-then-not-is_name_symbol : goal.returns-then-not-is_name_symbol
returns-then-not-is_name_symbol c =
    let t = sym c.is_name_symbol.ensures ∙ c.if-not-is_name_symbol.true in
    record { to = omega arith; left = sym (c.loop-i.invariant.2 ∙ name-stop (before-step c.args.s.now c.loop-i.i (omega arith) (omega arith)) t) }

pub loop-i-preserved-then-b-eq125 : goal.loop-i-preserved-then-b-eq125
loop-i-preserved-then-b-eq125 c =
    let group = c.before_group-i.ensures in
    let to = group.to in
    let t = sym c.is_name_symbol.ensures ∙ c.if-not-is_name_symbol.false in
    let here = before-step c.args.s.now c.loop-i.i (omega arith) (omega arith) in
    (omega arith, omega arith, c.loop-i.invariant.2 ∙ name-group here t (eq-eqb _ _ c.if-b-eq125.true) ∙ ap (name_before 0) (sym group.left))

pub loop-i-preserved : goal.loop-i-preserved
loop-i-preserved c =
    let t = sym c.is_name_symbol.ensures ∙ c.if-not-is_name_symbol.false in
    let here = before-step c.args.s.now c.loop-i.i (omega arith) (omega arith) in
    (omega arith, omega arith, c.loop-i.invariant.2 ∙ name-more here t (ne_eqb _ _ c.if-b-eq125.false))

pub returns : goal.returns
returns c =
    let start = before-none c.args.s.now c.loop-i.i (omega arith) in
    record { to = omega arith; left = sym (c.loop-i.invariant.2 ∙ name-none c.args.s.now c.loop-i.i (omega arith) ∙ sym start) }
