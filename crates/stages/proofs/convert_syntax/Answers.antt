-- `stages::convert_syntax` meets its contract: each stage takes the text that the one before it gave.
-- Assumes nothing.
use Rattle.spec.specs.Pipeline.{convert_syntax}
use Rattle.text.specs.Stage.{answered-then}
use Rattle.stage_laws.specs.Stages.{before-words-passes}
use Rattle.stages.specs.Chain.{staged_ready, stages-before-words, unmarked-after}
use borrow.Author.Rules.{rules}
use Rattle.stages.proofs.convert_syntax.Goals as goal

pub convert_words-t-requires : goal.convert_words-t-requires
convert_words-t-requires c =
    record { ready = search rules; unmarked_progress = unmarked-after before-words-passes (stages-before-words c.convert_sqrt-t.ensures.staged c.convert_functions-t.ensures.staged c.convert_operators-t.ensures.staged) c.requires.bare }

pub convert_subscripts-t-requires : goal.convert_subscripts-t-requires
convert_subscripts-t-requires c = search rules

pub returns : goal.returns
unfolding convert_syntax
returns c =
    answered-then
    (answered-then
    (answered-then
    (answered-then
    (answered-then
    (answered-then
    (answered-then
    (answered-then
    (answered-then
    (answered-then (stages-before-words c.convert_sqrt-t.ensures.staged c.convert_functions-t.ensures.staged c.convert_operators-t.ensures.staged) c.convert_words-t.ensures.answered)
    c.convert_greek_capitals-t.ensures.staged.answered)
    c.convert_subscripts-t.ensures.staged.answered)
    c.convert_superscripts-t.ensures.staged.answered)
    c.convert_fractions-t.ensures.answered)
    c.unmark_solidus-t.ensures.staged.answered)
    c.escape_set_braces-t.ensures.answered)
    c.convert_lr-t.ensures.answered)
    c.size_delimiters_to_content-t.ensures.answered)
    c.escape_percent.ensures.staged.answered

pub shape_of-work : goal.shape_of-work
shape_of-work c = (returns c).long
