-- What the check answers: the atom count of a plain text, or that the text is not plain. Assumes nothing.
--     answer_count     what an answer means
--     PlainOf         a plain text of n atoms, by the grammar
--     plain_count      the check as a definition, which computes
--     Checked         the contract: the answer is that of the definition, and that of the grammar
use Rattle.std.specs.Prelude.{◌≡◌, cond, ◌↔◌, List, ℕ, ◌+◌, ◌*◌, eqb, ltb, length}
use Rattle.std.proofs.Math.Option.{Option, none, some}
use Rattle.spec.specs.Pipeline.{most_formula}
use Rattle.spec.specs.Grammar.{Plain, atoms}
use Rattle.plain_parts.specs.Parts.{Read}
use Rattle.std.specs.Prelude.{Option as Maybe, Some, None}
use Rattle.plain_check.specs.Readers.{read_sum}

abbrev pub answer_count : Maybe ℕ → Option ℕ
answer_count (Some n) = some n
answer_count None = none

pub record PlainOf (s : List ℕ) (n : ℕ) : Type 0 where
  pub plain : Plain s
  pub count : atoms plain.sum ≡ n

-- ---- the check as a definition
-- five for each symbol, for the readers that call each other on the same text, and five at its end
abbrev pub fuel : List ℕ → ℕ
fuel s = 5 * length s + 5

-- a sum that is the whole text
abbrev pub wholly : List ℕ → Read → Option ℕ
wholly s None = none
wholly s (Some p) = cond (eqb p.used (length s)) (some p.atoms) none

unfoldable pub plain_count : List ℕ → Option ℕ
plain_count s = cond (ltb most_formula (length s)) none (wholly s (read_sum (fuel s) s))

-- ---- the contract
pub record Checked (s : List ℕ) (r : Maybe ℕ) : Type 0 where
  pub computed : answer_count r ≡ plain_count s
  pub yes : (n : ℕ) → (answer_count r ≡ some n) ↔ PlainOf s n
  pub no : (answer_count r ≡ none) ↔ (Plain s → ⊥)
