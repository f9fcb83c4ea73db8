-- `fraction_denominators::after_lvert` meets its contract. Assumes nothing.
use Rattle.fraction_denominators.specs.After.{word-jumps, word-stays}
use Rattle.fraction_operands.specs.Places.{stays, ahead-then}
use native.Mathlib.Omega.{arith}
use Rattle.fraction_denominators.proofs.after_lvert.Goals as goal

pub returns-then-ends_with : goal.returns-then-ends_with
returns-then-ends_with c =
    ahead-then (omega arith) c.rvert_from.ensures
    (word-jumps c.args.s.now c.args.start c.args.word c.requires.start_le_word c.requires.place.within c.ends_with.ensures.value c.if-ends_with.true)

pub returns : goal.returns
returns c =
    stays c.requires.place
    (word-stays c.args.s.now c.args.start c.args.word c.requires.start_le_word c.requires.place.within c.ends_with.ensures.value c.if-ends_with.false)
