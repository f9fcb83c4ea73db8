-- `pattern_rewriting::convert_sqrt` meets its contract. Assumes nothing.
use Rattle.spec.specs.Symbols.{bytes}
use Rattle.spec.specs.Words.{convert_sqrt}
use Rattle.text.specs.Untouched.{untouched-contains}
use Rattle.pattern_rewriting.proofs.convert_sqrt.Goals as goal

pub returns : goal.returns
unfolding convert_sqrt
returns c = record { staged = c.convert_pattern.ensures.staged; untouched = untouched-contains (bytes "sqrt(") c.convert_pattern.ensures.untouched }
