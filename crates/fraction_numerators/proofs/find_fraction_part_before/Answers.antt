-- `fraction_numerators::find_fraction_part_before` meets its contract, by the last symbol. Assumes nothing.
use Rattle.fraction_numerators.specs.Before.{before-brace, before-paren, before-bracket, before-word, before-nothing, last-read}
use Rattle.fraction_operands.specs.Places.{nothing-behind, found-behind, behind-then, found-behind-then}
use Rattle.text_symbols.specs.Places.{before-none}
use mathlib.Core.Path.{refl}
use Rattle.std.proofs.Common.{rules}
use native.Mathlib.Omega.{arith}
use Rattle.fraction_numerators.proofs.find_fraction_part_before.Goals as goal
use Rattle.fraction_numerators.proofs.find_fraction_part_before.Goals.{in-125, in-41, in-93}

pub returns-in_err-last : goal.returns-in_err-last
returns-in_err-last c = rw c.from_residual.ensures (nothing-behind (before-nothing (before-none c.args.s.now c.args.end (omega arith))))

pub returns-in_default : goal.returns-in_default
returns-in_default c =
    let s = c.args.s.now in
    let last = c.in_ok-last.last in
    let here = last-read s c.args.end last c.in_ok-last.ensures c.requires.within in
    found-behind (behind-then (omega arith) c.word_before.ensures refl) (before-word here (search rules) (search rules) (search rules))

pub returns : goal.returns
returns c =
    let here = last-read c.args.s.now c.args.end c.in_ok-last.last c.in_ok-last.ensures c.requires.within in
    found-behind-then (omega arith) c.with_name.ensures (elim c.match-b.branch [
      | in-125 w ↦ before-brace here w.in-125.is w.closer-is
      | in-41 w ↦ before-paren here w.in-41.is w.closer-is
      | in-93 w ↦ before-bracket here w.in-93.is w.closer-is
    ])
