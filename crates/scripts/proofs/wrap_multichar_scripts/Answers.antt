-- `scripts::wrap_multichar_scripts` meets its contract. Assumes nothing.
use mathlib.Core.Path.{ap, ◌∙◌}
use mathlib.Core.Bool.{false, ◌||◌}
use Rattle.scripts.specs.Scripts.{wrap-multichar-same, wrap-multichar-matches}
use Rattle.text.specs.Stage.{staged-by}
use Rattle.text.specs.Untouched.{untouched-alike}
use Rattle.spec.specs.Scripts.{wrap_multichar_scripts}
use Rattle.scripts.proofs.wrap_multichar_scripts.Goals as goal

pub returns : goal.returns
returns c =
    let sign = c.args.sign in record { staged = staged-by (wrap_multichar_scripts sign) (wrap-multichar-same sign) c.in_braces.ensures.staged; untouched = untouched-alike (λ s none. ap (λ b. b || false) (wrap-multichar-matches sign s) ∙ none) c.in_braces.ensures.untouched }
