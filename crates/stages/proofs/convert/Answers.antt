-- `stages::convert` meets its contract: each stage takes the text that the one before it gave.
-- Assumes nothing.
use Rattle.spec.specs.Pipeline.{typst_to_latex}
use Rattle.text.specs.Stage.{answered-ready, answered-then}
use Rattle.stage_laws.specs.Stages.{before-definitions-passes}
use Rattle.held_laws.specs.Instances.{table-sound}
use Rattle.stage_laws.specs.Outside.{outside-passes}
use Rattle.stages.specs.Chain.{staged_ready, first-stages, bare-after, fit-after}
use borrow.Author.Rules.{rules}
use Rattle.stages.proofs.convert.Goals as goal

pub apply_definitions_outside_text-t-requires : goal.apply_definitions_outside_text-t-requires
apply_definitions_outside_text-t-requires c =
    let first =
    first-stages c.mark_solidus-t.ensures.staged c.convert_op-t.ensures c.convert_cases-t.ensures c.convert_attach-t.ensures.answered
    c.convert_bb-t.ensures c.convert_bold-t.ensures c.convert_binom-t.ensures c.convert_upright-t.ensures
    c.convert_floor_ceil_abs-t.ensures c.convert_text_quotes-t.ensures in
    record { ready = answered-ready c.requires.ready first; admissible = fit-after before-definitions-passes first c.requires.admissible }

pub convert_syntax-t-requires-clause-bare : goal.convert_syntax-t-requires-clause-bare
convert_syntax-t-requires-clause-bare c =
    let first =
    first-stages c.mark_solidus-t.ensures.staged c.convert_op-t.ensures c.convert_cases-t.ensures c.convert_attach-t.ensures.answered
    c.convert_bb-t.ensures c.convert_bold-t.ensures c.convert_binom-t.ensures c.convert_upright-t.ensures
    c.convert_floor_ceil_abs-t.ensures c.convert_text_quotes-t.ensures in
    bare-after (outside-passes _ (table-sound _)) c.apply_definitions_outside_text-t.ensures.answered (fit-after before-definitions-passes first c.requires.admissible).bare

pub returns : goal.returns
unfolding typst_to_latex
returns c =
    answered-then
    (answered-then
    (answered-then
    (answered-then (first-stages c.mark_solidus-t.ensures.staged c.convert_op-t.ensures c.convert_cases-t.ensures c.convert_attach-t.ensures.answered c.convert_bb-t.ensures c.convert_bold-t.ensures c.convert_binom-t.ensures c.convert_upright-t.ensures c.convert_floor_ceil_abs-t.ensures c.convert_text_quotes-t.ensures) c.apply_definitions_outside_text-t.ensures.answered)
    c.convert_syntax-t.ensures)
    c.convert_alignment-t.ensures.staged.answered)
    c.drop_thin_space_after_commands.ensures.answered

pub shape_of-work : goal.shape_of-work
shape_of-work c = (returns c).long
