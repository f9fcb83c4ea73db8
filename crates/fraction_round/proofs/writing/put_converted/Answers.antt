-- `fraction_round::writing::put_converted` meets its contract: the operands stand in the buffer from the text's start on. Assumes nothing.
use Rattle.fraction_round.specs.Writing.{fraction-shifted}
use Rattle.fraction_round.proofs.writing.put_converted.Goals as goal

pub returns : goal.returns
returns c =
    rw (← c.cut-left.ensures, ← fraction-shifted c.requires.regions c.requires.n_le_most_symbols c.requires.ordered) c.put_fraction.ensures
