-- `binom::convert_binom` meets its contract: a name that is nowhere leaves the text as it is, and else the rewritten text is judged. Assumes nothing.
use Rattle.text.specs.Due.{staged-absent, staged-appended}
use Rattle.spec.specs.Calls.{convert_binom}
use Rattle.spec.specs.Laws.Sweep.{sweep-absent}
use Rattle.spec.specs.Laws.Absent.{binom-waits}
use Rattle.binom.proofs.convert_binom.Goals as goal

pub returns-in_default : goal.returns-in_default
unfolding convert_binom
returns-in_default c = staged-absent c.due_for.ensures c.in_default.is convert_binom (λ s absent. sweep-absent binom-waits s 0 absent)

pub returns : goal.returns
returns c =
    staged-appended c.due_for.ensures c.in-Some.is convert_binom c.rewrite_binoms.ensures c.finished.ensures
