-- `formula_report::put_refusal` meets its contract: its pieces one after another. A number has at most four digits. Assumes nothing.
use native.Mathlib.Omega.{arith}
use lib.ListN.{length-append}
use Rattle.text.specs.Stage.{number-between}
use Rattle.text.specs.Writer.{appended-more}
use Rattle.formula_report.specs.Standing.{appended-stands}
use Rattle.formula_report.proofs.put_refusal.Goals as goal

pub put_decimal-number-requires-clause-few : goal.put_decimal-number-requires-clause-few
put_decimal-number-requires-clause-few c = let k = (number-between c.args.why).1 in let same = c.from.ensures in omega arith

pub returns : goal.returns
returns c =
    let word = rw c.begin.ensures at c.put_all-word.ensures in
    rw (← c.from.ensures) (appended-stands (appended-more (appended-more word c.put_decimal-number.ensures.extended) c.put_all.ensures) (simp length-append (omega arith)))
