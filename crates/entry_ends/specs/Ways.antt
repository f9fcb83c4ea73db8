-- What the checks let pass. Assumes nothing.
--     checks-sound         a table that they let pass has definitions
use Rattle.std.specs.Prelude.{◌≡◌, refl, Bool, true, false, List, ℕ, ltb, length, Ok}
use Rattle.std.proofs.Math.Option.{Option, none, some}
use Rattle.spec.specs.Symbols.{foreign, any}
use Rattle.spec.specs.Result.{Result, passed, refused}
use Rattle.spec.specs.Table.{Definition, definitions}
use Rattle.spec.specs.Pipeline.{most_formula, readable}
use Rattle.table.specs.Sound.{refused as is_refused}
use Rattle.entry_ends.specs.Answer.{Checks}

pub checks-sound : {formula table : List ℕ} → Checks formula table (Ok tt) → is_refused (definitions table) ≡ false
checks-sound {formula} {table} c = go (ltb most_formula (length formula)) (any foreign formula) (definitions table) c.answers
  where
    go : (a b : Bool) (o : Option (List Definition))
        → passed formula ≡ elim a as (λ _. Result (List ℕ)) [ true ↦ refused 2 | false ↦ elim b as (λ _. Result (List ℕ)) [ true ↦ refused 1 | false ↦ readable formula o ] ]
        → is_refused o ≡ false
    go true b o e = cc
    go false true o e = cc
    go false false none e = cc
    go false false (some ds) e = refl
