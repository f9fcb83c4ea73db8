-- `fraction_round::writing::put_operand` meets its contract, by where the operand stands. Assumes nothing.
use Rattle.fraction_round.specs.Writing.{operand-part}
use Rattle.fraction_round.proofs.writing.put_operand.Goals as goal

pub returns : goal.returns
returns c = rw (operand-part c.args.work.now c.args.span c.operand_span-operand.ensures) at c.copy.ensures
