-- `fraction_round::slashes::numerator_of` meets its contract, by what the searches answer. Assumes nothing.
use Rattle.fraction_round.specs.Slash.{numerator-inside, numerator-nowhere}
use Rattle.fraction_round.proofs.slashes.numerator_of.Goals as goal

pub returns-then-is_inside_script : goal.returns-then-is_inside_script
returns-then-is_inside_script c = numerator-inside c.args.s.now c.args.i c.is_inside_script.ensures c.if-is_inside_script.true

pub returns-in_err-start : goal.returns-in_err-start
returns-in_err-start c =
    rw c.from_residual.ensures
    (numerator-nowhere c.args.s.now c.args.i c.is_inside_script.ensures c.if-is_inside_script.false c.run_start-end.ensures c.find_fraction_part_before.ensures c.in_err-start.was)
