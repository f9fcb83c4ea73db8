-- The closing search among the symbols before a place, nearest first. Assumes nothing.
--     ClosesBack    of a search that runs backwards: what it leaves over lies before the place that it found
use Rattle.std.specs.Prelude.{◌≡◌, List, ℕ, ◌≤◌, ◌<◌, length}
use Rattle.std.proofs.Common.{sym, ap, ◌∙◌, arith}
use Rattle.std.proofs.Math.Option.{Option, none, some}
use Rattle.text_symbols.specs.Places.{before}
use Rattle.text_search.specs.Search.{reach}
use Rattle.text_search.specs.Search.{Found}
use Rattle.std.specs.Prelude.{Some, None}

abbrev pub left_before : List ℕ → Found → Option (List ℕ)
left_before s (Some k) = some (before s k)
left_before s None = none

pub record ClosesBack (s : List ℕ) (r : Found) (o : Option (List ℕ)) : Type 0 where
  pub within : reach r ≤ length s
  pub left : left_before s r ≡ o

module _ {s : List ℕ} {r : Found} {o : Option (List ℕ)} where
  pub back_at : {k : ℕ} → ClosesBack s r o → r ≡ Some k → o ≡ some (before s k)
  back_at f e = sym f.left ∙ ap (left_before s) e

  pub back-within : {k : ℕ} → ClosesBack s r o → r ≡ Some k → k < length s
  back-within f e = let b = ap reach e in let w = f.within in omega arith

  pub back-nothing : ClosesBack s r o → r ≡ None → o ≡ none
  back-nothing f e = sym f.left ∙ ap (left_before s) e
