-- `stages::convert_fractions` meets its contract: with display off, the text stays as it is.
-- Assumes nothing.
use Rattle.spec.specs.Fractions.{convert_fractions}
use Rattle.stages.specs.Chain.{on-display, off-display}
use Rattle.stages.proofs.convert_fractions.Goals as goal

pub returns-then-display : goal.returns-then-display
returns-then-display c = on-display c.if-display.true c.convert_fractions.ensures

pub returns : goal.returns
returns c = off-display convert_fractions c.if-display.false c.requires
