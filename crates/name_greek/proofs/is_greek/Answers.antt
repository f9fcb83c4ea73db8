-- `name_greek::is_greek` meets its contract: the table's names are the definitions'. Assumes nothing.
use Rattle.std.proofs.Common.{◌∙◌, ap}
use Rattle.spec.specs.Finish.{one_of}
use Rattle.spec.specs.Grammar.{typsts}
use Rattle.name_greek.specs.Rows.{name-any}
use Rattle.name_greek.proofs.is_greek.Goals as goal

pub returns : goal.returns
returns c =
    c.is_name.ensures ∙ name-any c.greek.result.now c.args.s.now ∙ ap (λ rs. one_of (typsts rs) c.args.s.now) c.greek.ensures
