-- `answer_codes::answer_code` meets its contract: no refusal has the number 0. Assumes nothing.
use mathlib.Core.Path.{refl, ap, ◌∙◌}
use Rattle.entry_ends.specs.Answer.{meaning}
use Rattle.answer_codes.specs.Codes.{refusal-coded}
use Rattle.answer_codes.proofs.answer_code.Goals as goal

pub returns-in-Ok : goal.returns-in-Ok
returns-in-Ok c = record { answer_value = ap meaning c.in-Ok.is; count_after = λ some. absurd (some refl) }

pub returns-in-Err : goal.returns-in-Err
returns-in-Err c = record { answer_value = ap meaning c.in-Err.is ∙ refusal-coded c.in-Err.why 0 c.from.ensures; count_after = λ some. refl }
