-- `thin_spaces::drop_thin_space_after_commands` meets its contract: with no thin space the text stays, and else the rewritten text is judged.
-- Assumes nothing.
use Rattle.spec.specs.Laws.Absent.{thin-spaces-absent}
use Rattle.spec.specs.Finish.{drop_thin_space_after_commands}
use Rattle.text.specs.Due.{staged-absent, staged-appended}
use Rattle.thin_spaces.proofs.drop_thin_space_after_commands.Goals as goal

pub returns-in_default : goal.returns-in_default
returns-in_default c = staged-absent c.due_for.ensures c.in_default.is drop_thin_space_after_commands thin-spaces-absent

pub returns : goal.returns
returns c =
    staged-appended c.due_for.ensures c.in-Some.is drop_thin_space_after_commands c.drop_gaps.ensures c.finished.ensures
