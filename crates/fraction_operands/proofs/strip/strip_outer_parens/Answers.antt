-- `fraction_operands::strip::strip_outer_parens` meets its contract, by the trimmed text. Assumes nothing.
use Rattle.spec.specs.Fractions.{strip_trimmed, strip_outer_parens}
use mathlib.Core.Path.{ap, ◌∙◌}
use Rattle.fraction_operands.proofs.strip.strip_outer_parens.Goals as goal

pub returns : goal.returns
unfolding strip_outer_parens
returns c = c.strip_trimmed.ensures ∙ ap strip_trimmed c.trimmed-start.ensures.text
