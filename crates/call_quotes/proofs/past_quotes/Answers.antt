-- `call_quotes::past_quotes` meets its contract, by what the search for the next quote ensures. Assumes nothing.
use Rattle.std.proofs.Common.{rules}
use Rattle.call_quotes.specs.Quotes.{past-next}
use Rattle.call_quotes.proofs.past_quotes.Goals as goal

pub returns : goal.returns
returns c = past-next c.args.s.now c.args.i c.requires.0 c.requires.1 _ c.next_quote.ensures c.map_or.ensures (λ k h. search rules)
