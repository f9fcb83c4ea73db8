-- `text::due_for` meets its contract, by what the search has found. Assumes nothing.
use Rattle.text.specs.Stage.{placed-fits, placed-low}
use Rattle.text.specs.Due.{due-refused, due-absent, due-found}
use native.Mathlib.Omega.{arith}
use Rattle.text.proofs.due_for.Goals as goal

pub returns-in_default : goal.returns-in_default
returns-in_default c = due-refused c.requires _ c.in_default.is

pub overflow_add-end : goal.overflow_add-end
overflow_add-end c = let fits = placed-fits c.requires c.in-Ok.is in omega arith

pub slice_bounds-find-end : goal.slice_bounds-find-end
slice_bounds-find-end c = let fits = placed-fits c.requires c.in-Ok.is in omega arith

pub returns-in_err-first : goal.returns-in_err-first
returns-in_err-first c = rw c.from_residual.ensures (due-absent c.args.pattern.now c.requires c.in-Ok.is c.find.ensures c.in_err-first.was)

pub overflow_sub-from : goal.overflow_sub-from
overflow_sub-from c = placed-low c.requires c.in-Ok.is

pub returns : goal.returns
returns c = rw c.new.ensures (due-found c.args.pattern.now c.requires c.in-Ok.is c.find.ensures c.in_ok-first.was)
