-- `lr::convert_lr` meets its contract: with no `lr(` the text stays, a bare delimiter is number 8, and else the rewritten text is judged.
-- Assumes nothing.
use Rattle.lr.specs.Lr.{lr-absent, convert-lr-bare, convert-lr-sized}
use Rattle.spec.specs.Finish.{lr, convert_lr}
use Rattle.spec.specs.Sweep.{sweep}
use Rattle.text.specs.Stage.{staged-at}
use Rattle.text.specs.Due.{staged-idle, pattern-occurs, staged-appended, staged-answer}
use mathlib.Core.Path.{sym}
use Rattle.std.proofs.lemmas.Result.{err_from_is_err_and}
use Rattle.lr.proofs.convert_lr.Goals as goal

pub returns-in_default : goal.returns-in_default
returns-in_default c = staged-idle c.due_for.ensures c.in_default.is convert_lr lr-absent

pub returns-in_err-rewrite_lr : goal.returns-in_err-rewrite_lr
returns-in_err-rewrite_lr c =
    let p = err_from_is_err_and c.from_residual.result c.from_residual.ensures.1 in
    let bared = c.in_err-rewrite_lr.ensures in
    rw (p.1, p.2, bared.0) (staged-answer c.due_for.ensures c.in-Some.is convert_lr bared.1.appended (sym (convert-lr-bare _ bared.1.reaches)) tt)

pub returns : goal.returns
returns c =
    let awaited = c.due_for.ensures in
    let sized = c.in_ok-rewrite_lr.ensures in
    staged-at awaited.ready (pattern-occurs awaited c.in-Some.is).text convert_lr (convert-lr-sized _ sized.reaches) (staged-appended awaited c.in-Some.is (sweep lr 0 0) sized.appended c.finished.ensures)
