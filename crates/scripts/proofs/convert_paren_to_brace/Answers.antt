-- `scripts::convert_paren_to_brace` meets its contract. Assumes nothing.
use mathlib.Core.List.{◌∷◌}
use Rattle.spec.specs.Symbols.{bytes}
use Rattle.spec.specs.Scripts.{convert_paren_to_brace}
use Rattle.text.specs.Untouched.{untouched-contains}
use Rattle.scripts.proofs.convert_paren_to_brace.Goals as goal

pub returns : goal.returns
unfolding convert_paren_to_brace
returns c =
    record { staged = c.in_braces.ensures.staged; untouched = untouched-contains (c.args.sign ∷ bytes "(") c.in_braces.ensures.untouched }
