-- `lr::put_sized` meets its contract, by the delimiters of the first symbol. Assumes nothing.
use native.Mathlib.Omega.{arith}
use Rattle.lr.specs.Lr.{sized-by-first}
use Rattle.lr.proofs.put_sized.Goals as goal

pub returns : goal.returns
returns c = sized-by-first c.args.inside c.args.k _ c.args.first (omega arith) c.saturating_sub.ensures c.in-Some.ensures c.put_call.ensures
