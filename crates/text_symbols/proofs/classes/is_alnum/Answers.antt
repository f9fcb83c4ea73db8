-- `text_symbols::classes::is_alnum` meets its contract. Assumes nothing.
use Rattle.text_symbols.proofs.classes.is_alnum.Goals as goal

pub returns : goal.returns
returns c = rw (c.is_digit.ensures, c.is_letter.ensures)
