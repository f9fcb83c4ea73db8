-- `cases::branch_at` meets its contract, by the comma that ends it and by what `trim` ensures. Assumes nothing.
use Rattle.cases.specs.Cases.{branched}
use Rattle.cases.proofs.branch_at.Goals as goal

pub returns : goal.returns
returns c =
    branched c.requires.start_in_bounds.0 c.split_top_level_commas-part.ensures.splits c.split_top_level_commas-part.ensures.sees_next c.trim.ensures
