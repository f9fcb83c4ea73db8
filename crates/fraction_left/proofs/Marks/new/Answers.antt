-- `fraction_left::Marks::new` meets its contract: no place is marked. Assumes nothing.
use mathlib.Core.Path.{refl, ap}
use Rattle.std.specs.Prelude.{ℕ, eqb}
use Rattle.std.proofs.lemmas.List.{get_or-replicate, length-replicate}
use native.Mathlib.Omega.{arith}
use Rattle.fraction_left.proofs.Marks.new.Goals as goal

pub returns : goal.returns
returns c = record { long = omega (arith, length-replicate {A = ℕ} 8192 0); same_end = refl; marked = λ j h. ap (λ m. eqb m 1) (get_or-replicate 8192 j 0 0 h) }
