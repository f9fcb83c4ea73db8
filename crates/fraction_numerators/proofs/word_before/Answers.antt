-- `fraction_numerators::word_before` meets its contract. The loop's invariant: the search from here is the search from the start. Assumes nothing.
use Rattle.fraction_numerators.specs.Before.{word-before-past, word-before-here, word-before-none}
use Prim.Native.Nat.{◌+◌, ◌-◌}
use mathlib.Core.Path.{◌≡◌, sym, ◌∙◌}
use native.Mathlib.Omega.{arith}
use Rattle.fraction_numerators.proofs.word_before.Goals as goal

pub returns-then-not-is_in_operand : goal.returns-then-not-is_in_operand
returns-then-not-is_in_operand c =
    let next : c.loop-i.i - 1 + 1 ≡ c.loop-i.i = omega arith in
    let stop = word-before-here c.args.s.now _ _ next (omega arith) c.symbol_before.ensures c.is_in_operand.ensures c.if-not-is_in_operand.true in
    rw next (record { to = omega arith; left = sym (c.loop-i.invariant ∙ stop) })

pub loop-i-preserved : goal.loop-i-preserved
loop-i-preserved c = c.loop-i.invariant ∙ word-before-past c.args.s.now c.loop-i.i (c.loop-i.i - 1) (omega arith) (omega arith) c.symbol_before.ensures c.is_in_operand.ensures c.if-not-is_in_operand.false

pub returns : goal.returns
returns c = record { to = omega arith; left = sym (c.loop-i.invariant ∙ word-before-none c.args.s.now c.loop-i.i _ (omega arith)) }
