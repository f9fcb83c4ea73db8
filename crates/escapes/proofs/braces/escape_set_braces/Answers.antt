-- `escapes::braces::escape_set_braces` meets its contract: with no opening brace the text stays, and else the rewritten text is judged. Assumes nothing.
use Rattle.escapes.specs.Braces.{escape-absent}
use Rattle.spec.specs.Finish.{escape_set_braces}
use Rattle.text.specs.Due.{staged-absent, staged-appended}
use Rattle.escapes.proofs.braces.escape_set_braces.Goals as goal

pub returns-in_default : goal.returns-in_default
returns-in_default c = staged-absent c.due_for.ensures c.in_default.is escape_set_braces escape-absent

pub returns : goal.returns
returns c =
    staged-appended c.due_for.ensures c.in-Some.is escape_set_braces c.escape.ensures c.finished.ensures
