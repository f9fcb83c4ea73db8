-- `stages::apply_definitions_outside_text` meets its contract: number 3 lets the table of a text pass that has not been refused.
-- Assumes nothing.
use mathlib.Core.Path.{ap}
use Rattle.spec.specs.Pipeline.{definitions_or}
use Rattle.table.specs.Sound.{refused}
use Rattle.stages.specs.Chain.{bare-unmarked, fit-sound}
use Rattle.stages.proofs.apply_definitions_outside_text.Goals as goal

pub apply_definitions_outside_text-requires : goal.apply_definitions_outside_text-requires
apply_definitions_outside_text-requires c =
    let w = c.args.work.now in
    record { ready = c.requires.ready; unmarked_progress = bare-unmarked w c.args.text c.requires.admissible.bare; not_refused = ap refused (fit-sound w c.in_ok-text.was c.requires.admissible) }

pub returns : goal.returns
returns c =
    let ds = definitions_or c.args.table.now in
    let sound = fit-sound c.args.work.now c.in_ok-text.was c.requires.admissible in
    record { answered = c.apply_definitions_outside_text.ensures.answered ds sound; untouched = c.apply_definitions_outside_text.ensures.untouched ds sound }

pub shape_of-work : goal.shape_of-work
shape_of-work c = (returns c).answered.long
