-- `plain_check::plain_check` meets its contract: by what the sum reader answers, with the fuel that the definition names. Assumes nothing.
use Rattle.plain_check.specs.Agreement.{checked, counts-long, counts-nothing, counts_whole, counts-part}
use Rattle.plain_check.proofs.plain_check.Goals as goal

pub returns-then-s-gt-MOST_FORMULA : goal.returns-then-s-gt-MOST_FORMULA
returns-then-s-gt-MOST_FORMULA c = checked (counts-long c.args.s.now c.if-s-gt-MOST_FORMULA.true)

pub returns-in_err-p : goal.returns-in_err-p
returns-in_err-p c = rw c.from_residual.ensures (checked (counts-nothing c.in_err-p.ensures c.if-s-gt-MOST_FORMULA.false))

pub returns-then-p-s : goal.returns-then-p-s
returns-then-p-s c =
    checked (counts_whole c.in_ok-p.ensures c.if-s-gt-MOST_FORMULA.false c.if-p-s.true)

pub returns-else-p-s : goal.returns-else-p-s
returns-else-p-s c =
    checked (counts-part c.in_ok-p.ensures c.if-s-gt-MOST_FORMULA.false c.if-p-s.false)
