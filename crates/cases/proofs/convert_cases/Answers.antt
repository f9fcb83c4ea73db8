-- `cases::convert_cases` meets its contract: where there is no call to rewrite the text is left as it is, and else the rewritten text is judged.
-- Assumes nothing.
use mathlib.Core.Path.{sym}
use Rattle.spec.specs.Calls.{convert_cases}
use Rattle.text.specs.Due.{pattern-occurs, staged-absent, staged-kept, staged-appended}
use Rattle.call_rewriting.specs.First.{due-unclosed, due-first}
use Rattle.cases.specs.Cases.{cases-unclosed, cases-parts}
use Rattle.spec.specs.Laws.Absent.{cases-absent}
use Rattle.cases.proofs.convert_cases.Goals as goal

pub returns-in_default : goal.returns-in_default
returns-in_default c = staged-absent c.due_for.ensures c.in_default.is convert_cases cases-absent

pub returns-in_default-call_at : goal.returns-in_default-call_at
returns-in_default-call_at c =
    let o = pattern-occurs c.due_for.ensures c.in-Some.is in
    staged-kept c.due_for.ensures c.in-Some.is convert_cases (cases-unclosed _ _ o.found (due-unclosed o c.call_at.ensures c.in_default-call_at.is))

pub returns : goal.returns
returns c =
    let o = pattern-occurs c.due_for.ensures c.in-Some.is in
    let parts = cases-parts c.args.work.now _ _ (due-first o c.call_at.ensures c.in-Some-call_at.is) o.regions.source in
    staged-appended c.due_for.ensures c.in-Some.is convert_cases (rw (sym parts) at c.rewrite_cases.ensures) c.finished.ensures
