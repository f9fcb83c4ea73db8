-- `fraction_denominators::rvert_from` meets its contract, by the search in the rest of the text. Assumes nothing.
use Rattle.fraction_denominators.specs.After.{rvert-answer}
use Rattle.spec.specs.Symbols.{bytes, find}
use Rattle.std.proofs.Common.{rules}
use Rattle.text_search.specs.Search.{finds-rest}
use Rattle.fraction_denominators.proofs.rvert_from.Goals as goal

pub returns : goal.returns
returns c = rvert-answer c.find.result c.requires (finds-rest c.args.s.now c.args.start (find (bytes "\\rvert")) c.find.ensures) (search rules)
