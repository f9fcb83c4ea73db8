-- `pattern_rewriting::rules::wrap_multichar` meets its contract, by where the letters and digits end. Assumes nothing.
use Rattle.pattern_rewriting.specs.Edits.{long, ident-wrapped, ident-short}
use native.Mathlib.Omega.{arith}
use Rattle.pattern_rewriting.proofs.rules.wrap_multichar.Goals as goal

pub run_end-end-requires : goal.run_end-end-requires
run_end-end-requires c = let l = long c.requires in let p = c.requires.positive in omega arith

pub returns-then-end-le2 : goal.returns-then-end-le2
returns-then-end-le2 c = λ left. ident-short c.requires left c.run_end-end.ensures c.if-end-le2.true

pub returns : goal.returns
returns c = λ left. ident-wrapped c.requires left c.run_end-end.ensures c.if-end-le2.false
