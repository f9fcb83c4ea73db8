-- `held_blocks::back::put_back` meets its contract. The invariant is `Returning`, at place i. Assumes nothing.
use mathlib.Core.Path.{◌≡◌}
use Rattle.held_blocks.specs.Filing.{text_from}
use Rattle.held_blocks.specs.Back.{Returning}
use Rattle.held_blocks.proofs.back.put_back.Given as goal

abbrev pub invariant-loop-i : goal.invariant-loop-i
invariant-loop-i l = (l.out ≡ text_from l.to l.out.count) × Returning l.mark l.first l.initial.work l.work l.from l.n l.to l.out.count l.k l.i
