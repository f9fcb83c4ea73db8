-- `fraction_numerators::script::has_script_group` meets its contract: a script group begins with `_(` or `^(`. Assumes nothing.
use Rattle.fraction_numerators.specs.Script.{scriptless}
use Rattle.fraction_numerators.proofs.script.has_script_group.Goals as goal

pub returns : goal.returns
returns c =
    λ e. scriptless c.args.s.now (rw (c.contains.ensures, c.contains-2.ensures) at e)
