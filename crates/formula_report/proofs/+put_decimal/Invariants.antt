-- `formula_report::put_decimal` calls itself on a tenth of the number, so its measure is the number. Assumes nothing.
use Rattle.formula_report.proofs.+put_decimal.Given as goal

abbrev pub decreases-put_decimal : goal.decreases-put_decimal
decreases-put_decimal l = l.n
