-- `text_symbols::classes::is_word` meets its contract. Assumes nothing.
use Rattle.text_symbols.proofs.classes.is_word.Goals as goal

pub returns : goal.returns
returns c = rw c.is_alnum.ensures
