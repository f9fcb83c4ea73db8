-- `stages::size_delimiters_to_content` meets its contract: with display off, the text stays as it is.
-- Assumes nothing.
use Rattle.spec.specs.Result.{stage}
use Rattle.spec.specs.Finish.{size_delimiters_to_content}
use Rattle.stages.specs.Chain.{on-display, off-display}
use Rattle.stages.proofs.size_delimiters_to_content.Goals as goal

pub returns-then-display : goal.returns-then-display
returns-then-display c = on-display c.if-display.true c.size_delimiters_to_content.ensures

pub returns : goal.returns
returns c = off-display (stage (size_delimiters_to_content c.args.field)) c.if-display.false c.requires
