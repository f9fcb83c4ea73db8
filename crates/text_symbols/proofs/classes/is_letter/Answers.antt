-- `text_symbols::classes::is_letter` meets its contract. Assumes nothing.
use Rattle.text_symbols.proofs.classes.is_letter.Goals as goal

pub returns : goal.returns
returns c = rw (c.is_between-2.ensures, c.is_between.ensures)
