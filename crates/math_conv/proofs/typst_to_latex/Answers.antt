-- `math_conv::typst_to_latex` meets its contract: a call, from what its steps ensure.
-- Assumes nothing.
use Rattle.math_conv.specs.Steps.{admits-fit, call-narrow, call-made}
use Rattle.math_conv.proofs.typst_to_latex.Goals as goal

pub returns-then-work-lt-LEAST_WORK : goal.returns-then-work-lt-LEAST_WORK
returns-then-work-lt-LEAST_WORK c = call-narrow c.if-work-lt-LEAST_WORK.true

pub convert-latex-requires : goal.convert-latex-requires
convert-latex-requires c =
    record { ready = c.admit-admitted.ensures.ready; admissible = admits-fit c.admit-admitted.ensures }

pub returns : goal.returns
returns c =
    call-made c.if-work-lt-LEAST_WORK.false c.admit-admitted.ensures c.convert-latex.ensures c.put_out-answer.ensures c.clear.ensures
