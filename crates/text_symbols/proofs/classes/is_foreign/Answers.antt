-- `text_symbols::classes::is_foreign` meets its contract. Assumes nothing.
use Rattle.text_symbols.proofs.classes.is_foreign.Goals as goal

pub returns : goal.returns
returns c = rw c.is_between.ensures
