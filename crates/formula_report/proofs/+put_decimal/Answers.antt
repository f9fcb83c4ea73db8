-- `formula_report::put_decimal` meets its contract: by the laws of decimal digits. Assumes nothing.
use native.Mathlib.Omega.{arith}
use Rattle.formula_report.specs.Decimal.{decimal-one, decimal-more, four-digits}
use Rattle.text.specs.Writer.{appended-more, appended-long}
use Rattle.formula_report.proofs.+put_decimal.Goals as goal

pub returns-then-n-lt10 : goal.returns-then-n-lt10
returns-then-n-lt10 t c = record { extended = rw (decimal-one c.args.n c.if-n-lt10.true) c.put_digit.ensures; short = four-digits c.args.n (omega arith) }

pub returns : goal.returns
returns t c =
    record {
      extended = rw (decimal-more c.args.n c.if-n-lt10.false) (appended-more c.put_decimal-end.ensures.extended c.put_digit-2.ensures);
      short = four-digits c.args.n (omega arith);
    }

pub put_digit-requires-2 : goal.put_digit-requires-2
put_digit-requires-2 t c =
    let a = c.put_decimal-end.ensures.extended in let l = appended-long a in let n = a.counted in let p = a.same-place in let q = a.same-cap in
    record { region = omega arith; small = omega arith }
