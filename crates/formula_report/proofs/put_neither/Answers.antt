-- `formula_report::put_neither` meets its contract. Assumes nothing.
use native.Mathlib.Omega.{arith}
use Rattle.formula_report.specs.Standing.{appended-stands}
use Rattle.formula_report.proofs.put_neither.Goals as goal

pub returns : goal.returns
returns c = appended-stands (rw c.begin.ensures at c.put_all.ensures) (omega arith)
