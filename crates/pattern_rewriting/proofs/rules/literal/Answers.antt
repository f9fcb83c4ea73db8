-- `pattern_rewriting::rules::literal` meets its contract. Assumes nothing.
use Rattle.pattern_rewriting.specs.Edits.{literal-met}
use Rattle.pattern_rewriting.proofs.rules.literal.Goals as goal

pub returns : goal.returns
returns c = λ left. literal-met c.requires left
