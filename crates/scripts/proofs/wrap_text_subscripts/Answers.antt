-- `scripts::wrap_text_subscripts` meets its contract. Assumes nothing.
use Rattle.scripts.specs.Scripts.{wrap-text-same}
use Rattle.text.specs.Stage.{staged-by}
use Rattle.spec.specs.Scripts.{wrap_text_subscripts}
use Rattle.scripts.proofs.wrap_text_subscripts.Goals as goal

pub returns : goal.returns
returns c =
    record { staged = staged-by (wrap_text_subscripts c.args.sign) (wrap-text-same c.args.sign) c.in_braces.ensures.staged; untouched = c.in_braces.ensures.untouched }
