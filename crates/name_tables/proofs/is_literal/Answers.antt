-- `name_tables::is_literal` meets its contract. Assumes nothing.
use Rattle.std.proofs.Common.{◌∙◌, rules}
use Rattle.std.proofs.lemmas.Iterator.{YieldsList-from_slice}
use Rattle.std.proofs.lemmas.Iterator.Search.{any_from_yields_List}
use Rattle.name_tables.specs.Kinds.{special, any-listed}
use borrow.Author.Tests.{tests}
use Rattle.name_tables.proofs.is_literal.Goals as goal

pub returns : goal.returns
returns c =
    any_from_yields_List special _ _ c.any.result c.any.ensures.ran (YieldsList-from_slice c.args.word.now cc) (λ x b q k. search (rules, tests))
    ∙ any-listed special c.args.word.now
