-- `quotes::after_quote` meets its contract, by the first symbol that is not blank. Assumes nothing.
use Rattle.quotes.specs.Quotes.{closed-at}
use Rattle.quotes.proofs.after_quote.Goals as goal

pub returns : goal.returns
returns c = rw c.then_some.ensures (closed-at c.run_end-next.ensures (rw (c.is_alnum.ensures, c.symbol-symbol.ensures)))
