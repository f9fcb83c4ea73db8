-- `fraction_round::slashes::slash_at` meets its contract, by what the searches answer. Assumes nothing.
use Rattle.fraction_round.specs.Slash.{numerated, slash-left, slash-barred, slash-alone, slash-converts}
use Rattle.fraction_operands.specs.Places.{ahead-found, ahead-is, ahead-nothing}
use Rattle.text_symbols.specs.Places.{before, length_before}
use mathlib.Core.Path.{sym, ◌∙◌}
use native.Mathlib.Omega.{arith}
use Rattle.fraction_round.proofs.slashes.slash_at.Goals as goal

pub returns-then-is_left : goal.returns-then-is_left
returns-then-is_left c =
    let s = c.args.s.now in
    let i = c.args.i in
    let num = numerated c.numerator_of.ensures c.in-Some.is in
    λ done kept. slash-left s i kept num (sym (c.is_left.ensures done kept) ∙ c.if-is_left.true) (c.mark.ensures _ done (before s i) (length_before s i (omega arith)) (omega arith) kept)

pub returns-then-is_barred : goal.returns-then-is_barred
returns-then-is_barred c =
    let num = numerated c.numerator_of.ensures c.in-Some.is in
    let barred = sym c.is_barred.ensures ∙ c.if-is_barred.true in
    λ done kept. slash-barred _ _ kept num (sym (c.is_left.ensures done kept) ∙ c.if-is_left.false) c.run_end-start.ensures barred _

pub returns-in_default-find_fraction_part_after : goal.returns-in_default-find_fraction_part_after
returns-in_default-find_fraction_part_after c =
    let num = numerated c.numerator_of.ensures c.in-Some.is in
    let free = sym c.is_barred.ensures ∙ c.if-is_barred.false in
    let none = ahead-nothing c.find_fraction_part_after.ensures c.in_default-find_fraction_part_after.is in
    λ done kept. slash-alone _ _ kept num (sym (c.is_left.ensures done kept) ∙ c.if-is_left.false) c.run_end-start.ensures free none

pub returns : goal.returns
returns c =
    let num = numerated c.numerator_of.ensures c.in-Some.is in
    let free = sym c.is_barred.ensures ∙ c.if-is_barred.false in
    let den = c.find_fraction_part_after.ensures in
    let end = ahead-found den c.in-Some-find_fraction_part_after.is in
    λ done kept. slash-converts _ _ kept num (sym (c.is_left.ensures done kept) ∙ c.if-is_left.false) c.run_end-start.ensures free (omega arith) end.from end.within (ahead-is den c.in-Some-find_fraction_part_after.is)
