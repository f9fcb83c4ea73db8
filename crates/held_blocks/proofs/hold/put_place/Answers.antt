-- `held_blocks::hold::put_place` meets its contract: two numbers in a row. Assumes nothing.
use Rattle.text.specs.Writer.{appended-more}
use Rattle.held_blocks.proofs.hold.put_place.Goals as goal

pub returns : goal.returns
returns c = appended-more c.put_pair-half.ensures c.put_pair.ensures
