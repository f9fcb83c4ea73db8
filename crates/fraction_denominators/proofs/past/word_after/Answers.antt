-- `fraction_denominators::past::word_after` meets its contract. The loop's invariant: the search from here is the search from the start. Assumes nothing.
use Rattle.fraction_denominators.specs.Past.{word-after-more, word-after-stop, word-after-none}
use lib.ListN.{length}
use Rattle.text_symbols.specs.Places.{drop-none}
use mathlib.Core.Path.{sym, ◌∙◌}
use native.Mathlib.Omega.{arith}
use Rattle.fraction_denominators.proofs.past.word_after.Goals as goal

pub returns-then-not-is_in_operand : goal.returns-then-not-is_in_operand
returns-then-not-is_in_operand c =
    let stop = word-after-stop c.args.s.now c.loop-i.i (omega arith) c.symbol.ensures c.loop-i.previous c.is_in_operand.ensures c.if-not-is_in_operand.true in
    record { from = omega arith; within = omega arith; left = sym (c.loop-i.invariant ∙ stop) }

pub loop-i-preserved : goal.loop-i-preserved
loop-i-preserved c =
    c.loop-i.invariant ∙ word-after-more c.args.s.now c.loop-i.i (omega arith) c.symbol.ensures c.loop-i.previous c.is_in_operand.ensures c.if-not-is_in_operand.false

pub returns : goal.returns
returns c =
    let s = c.args.s.now in
    record {
      from = omega arith;
      within = omega arith;
      left = drop-none s (length s) (omega arith) ∙ sym (c.loop-i.invariant ∙ word-after-none s c.loop-i.i c.loop-i.previous (omega arith));
    }
