-- `jistranu::jistranu_plain_check` meets its contract, since the check does. Assumes nothing.
use mathlib.Core.Path.{subst}
use Rattle.plain_check.specs.Check.{Checked}
use Rattle.jistranu.proofs.jistranu_plain_check.Goals as goal

pub returns : goal.returns
returns c =
    record { plain_checked = subst (Checked _) c.plain_code.ensures.answer_value c.plain_check-answer.ensures; atoms_after = c.plain_code.ensures.atoms_after }
