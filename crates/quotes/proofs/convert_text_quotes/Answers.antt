-- `quotes::convert_text_quotes` meets its contract: a text without quotes is left as it is, and else the rewritten text is judged. Assumes nothing.
use Rattle.text.specs.Due.{staged-absent, staged-rewritten}
use Rattle.spec.specs.Quotes.{convert_text_quotes}
use Rattle.spec.specs.Laws.Absent.{quotes-absent}
use Rattle.quotes.proofs.convert_text_quotes.Goals as goal

pub returns-in_default : goal.returns-in_default
returns-in_default c = staged-absent c.due_for.ensures c.in_default.is convert_text_quotes quotes-absent

pub returns : goal.returns
returns c =
    staged-rewritten c.due_for.ensures c.in-Some.is convert_text_quotes c.rewrite_quotes.ensures c.finished.ensures
