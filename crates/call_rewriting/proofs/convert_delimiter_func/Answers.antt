-- `call_rewriting::convert_delimiter_func` meets its contract: a name that is nowhere leaves the text as it is, and else the rewritten text is judged. Assumes nothing.
use Rattle.call_rewriting.specs.Delimiters.{delimited}
use Rattle.text.specs.Due.{staged-absent, staged-appended}
use Rattle.spec.specs.Closing.{over_quotes}
use Rattle.spec.specs.Calls.{convert_calls}
use Rattle.spec.specs.Laws.Sweep.{sweep-absent}
use Rattle.spec.specs.Laws.Absent.{calling-waits}
use Rattle.call_rewriting.proofs.convert_delimiter_func.Goals as goal

pub returns-in_default : goal.returns-in_default
unfolding convert_calls
returns-in_default c =
    let name = c.args.call.now.name.now in
    let write = delimited c.args.call.now.trims c.args.call.now.left.now c.args.call.now.right.now in
    staged-absent c.due_for.ensures c.in_default.is (convert_calls name write) (λ s absent. sweep-absent (calling-waits over_quotes name write) s 0 absent)

pub returns : goal.returns
returns c =
    let f = convert_calls c.args.call.now.name.now (delimited c.args.call.now.trims c.args.call.now.left.now c.args.call.now.right.now) in
    staged-appended c.due_for.ensures c.in-Some.is f c.rewrite_calls.ensures c.finished.ensures
