-- `jistranu::jistranu_typst_to_latex` meets its contract, since the entry does. Assumes nothing.
use Rattle.jistranu.specs.Answered.{call-answered}
use Rattle.jistranu.proofs.jistranu_typst_to_latex.Goals as goal

pub returns : goal.returns
returns c =
    record { call = call-answered c.answer_code.ensures.answer_value c.typst_to_latex-answer.ensures; count_after = c.answer_code.ensures.count_after }
