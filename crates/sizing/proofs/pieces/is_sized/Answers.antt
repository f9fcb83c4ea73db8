-- `sizing::pieces::is_sized` meets its contract. Assumes nothing.
use Rattle.spec.specs.Symbols.{bytes}
use Rattle.sizing.specs.Pieces.{before-ends}
use mathlib.Core.Bool.{◌||◌}
use mathlib.Core.Path.{ap₂, ◌∙◌}
use Rattle.sizing.proofs.pieces.is_sized.Goals as goal

pub returns : goal.returns
returns c =
    ap₂ ◌||◌ (c.ends_with.ensures.value ∙ before-ends (bytes "\\left") c.args.s.now c.args.i) (c.ends_with-2.ensures.value ∙ before-ends (bytes "\\right") c.args.s.now c.args.i)
