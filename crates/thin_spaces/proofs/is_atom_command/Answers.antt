-- `thin_spaces::is_atom_command` meets its contract: one of five words. Assumes nothing.
use mathlib.Core.Path.{◌∙◌}
use Rattle.spec.specs.Finish.{atom_commands}
use Rattle.thin_spaces.specs.Thin.{listed-same}
use Rattle.thin_spaces.proofs.is_atom_command.Goals as goal

pub returns : goal.returns
returns c = c.contains.ensures.value ∙ listed-same atom_commands c.args.word.now
