-- `pattern_rewriting::replace` meets its contract: a literal replacement is a rewriting. Assumes nothing.
use Rattle.spec.specs.Sweep.{replace}
use Rattle.text.specs.Untouched.{untouched-contains}
use Rattle.pattern_rewriting.proofs.replace.Goals as goal

pub returns : goal.returns
unfolding replace
returns c =
    record { staged = c.convert_pattern.ensures.staged; untouched = untouched-contains c.args.pattern.now c.convert_pattern.ensures.untouched }
