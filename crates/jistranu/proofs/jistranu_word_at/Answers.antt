-- `jistranu::jistranu_word_at` meets its contract, by where the word was found. Assumes nothing.
use mathlib.Core.Path.{ap, ◌∙◌}
use Rattle.spec.specs.WordAt.{number_of, part_of}
use Rattle.answer_codes.specs.Codes.{found-ordered}
use Rattle.jistranu.proofs.jistranu_word_at.Goals as goal

pub word_code-requires : goal.word_code-requires
word_code-requires c =
    found-ordered c.find_word-found.ensures

pub returns : goal.returns
returns c =
    let e = c.find_word-found.ensures.answers in
    record { value = c.word_code.ensures.value ∙ ap number_of e; length_after = c.word_code.ensures.length_after ∙ ap part_of e }
