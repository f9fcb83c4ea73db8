-- `scripts::convert_scripts` meets its contract: three stages, one after another. Assumes nothing.
use mathlib.Core.List.{[], ◌∷◌}
use Rattle.spec.specs.Symbols.{bytes, contains}
use Rattle.spec.specs.Matches.{wrap_text_match, wrap_multichar_match}
use Rattle.text.specs.Stage.{staged-then}
use Rattle.text.specs.Untouched.{untouched-then}
use Rattle.scripts.proofs.convert_scripts.Goals as goal

pub returns : goal.returns
returns c =
    let sign = c.args.sign in
    record { staged = staged-then (staged-then c.convert_paren_to_brace-grouped.ensures.staged c.wrap_text_subscripts-blocked.ensures.staged) c.wrap_multichar_scripts.ensures.staged; untouched = untouched-then (contains (sign ∷ bytes "(") ∷ (wrap_text_match sign ∷ [])) (wrap_multichar_match sign ∷ []) (untouched-then (contains (sign ∷ bytes "(") ∷ []) (wrap_text_match sign ∷ []) c.convert_paren_to_brace-grouped.ensures.untouched c.wrap_text_subscripts-blocked.ensures.untouched) c.wrap_multichar_scripts.ensures.untouched }
