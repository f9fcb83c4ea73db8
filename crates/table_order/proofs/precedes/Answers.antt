-- `table_order::precedes` meets its contract: by the lengths of the names, then by their bytes. Assumes nothing.
use mathlib.Core.Path.{refl, sym, ap₂, ◌∙◌}
use native.Mathlib.Omega.{arith}
use Rattle.std.specs.Ordering.{is_lt, nat_cmp}
use Rattle.std.proofs.lemmas.Cmp.{same_from_slice_cmp_tested}
use Rattle.std.proofs.lemmas.Bool.Decides.{nat_tests}
use Rattle.spec.specs.Table.{lower, precedes}
use Rattle.spec.specs.Laws.Order.{precedes-alike}
use Rattle.table_order.proofs.precedes.Goals as goal

pub returns-then-second-first-2 : goal.returns-then-second-first-2
returns-then-second-first-2 c =
    let by = same_from_slice_cmp_tested nat_cmp is_lt lower refl (λ _ _. refl) (λ _ _. refl) (λ x y xs ys o h. grind (arith, nat_tests)) in
    by c.name_in-first.result.now c.name_in-second.result.now c.lt.result c.lt.ensures
    ∙ sym (precedes-alike c.name_in-first.result.now c.name_in-second.result.now (omega arith))
    ∙ ap₂ precedes c.name_in-first.ensures c.name_in-second.ensures
