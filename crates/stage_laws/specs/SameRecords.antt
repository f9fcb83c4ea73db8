-- Two tables with the same records, in whatever order. Assumes nothing.
--     SameRecords        both are read to the end, and the records of one are those of the other
--     CallsAlike         two calls that differ in the table alone answer the same and leave the same bytes
--     SameLimit          both tables have more than 32,768 bytes, or neither has
use Rattle.std.specs.Prelude.{◌≡◌, Bool, List, ℕ, ltb, length}
use Rattle.std.proofs.Math.Option.{some}
use Rattle.spec.specs.Result.{Result}
use Rattle.spec.specs.Table.{Definition, most_bytes, records, Rearranged}
use Rattle.spec.specs.Pipeline.{Call}

pub record SameRecords (table table' : List ℕ) : Type 0 where
  pub first : List Definition
  pub second : List Definition
  pub read : records table ≡ some first
  pub read' : records table' ≡ some second
  pub rearranged : Rearranged first second

-- any two calls of the entry with these tables, and the same formula, display, tall field and buffers, answer the same and leave the same bytes
abbrev pub CallsAlike : List ℕ → List ℕ → Type 0
CallsAlike table table' =
    (formula work output work' output' work'' output'' : List ℕ) (display : Bool) (field : ℕ) (answer answer' : Result ℕ)
    → Call formula table display field work output answer work' output'
    → Call formula table' display field work output answer' work'' output''
    → (answer ≡ answer') × ((work' ≡ work'') × (output' ≡ output''))

-- ---- number 3
-- both have more than 32,768 bytes, or neither has
abbrev pub SameLimit : List ℕ → List ℕ → Type 0
SameLimit table table' = ltb most_bytes (length table) ≡ ltb most_bytes (length table')
