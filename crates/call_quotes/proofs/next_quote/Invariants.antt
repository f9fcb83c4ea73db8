-- `call_quotes::next_quote` meets its contract. The loop's invariant: no symbol passed is a quote. Assumes nothing.
use Rattle.call_quotes.specs.Quotes.{quote}
use Rattle.spec.specs.Symbols.{find}
use lib.ListN.{drop}
use mathlib.Core.Path.{◌≡◌}
use Rattle.call_quotes.proofs.next_quote.Given as goal

abbrev pub invariant-loop-k : goal.invariant-loop-k
invariant-loop-k l = find quote (drop l.start l.s) ≡ find quote (drop l.k l.s)
