-- A rewriting that goes through a text once, from the left. At each place it takes a symbol and perhaps more, and writes something.
--     Turn       what is done at a place. `taken` and `kept` make one
--     sweep      the text that comes of it: the rule is told the symbol before the place (0 at the start) and the text from there on
--     reached    a sweep comes to a place where a test holds
--     replace    `str::replace`
-- `skip` counts the symbols that a turn has taken besides its first, so that the recursion is on the list, with no fuel. Assumes nothing.
use Rattle.std.specs.Prelude.{Bool, false, cond, ◌||◌, List, [], ◌∷◌, ◌++◌, ℕ, zero, suc, pred, length, take}
use Rattle.spec.specs.Symbols.{starts}

-- the symbols that are taken besides the first, and what is written for all of them
pub record Turn : Type 0 where
  pub more : ℕ
  pub fresh : List ℕ

-- n symbols are taken
abbrev pub taken : ℕ → List ℕ → Turn
taken n fresh = record { more = pred n; fresh = fresh }

abbrev pub Rule : Type 0
Rule = ℕ → List ℕ → Turn

-- the symbol is copied
abbrev pub kept : List ℕ → Turn
kept s = taken 1 (take 1 s)

unfoldable pub sweep : Rule → ℕ → ℕ → List ℕ → List ℕ
sweep rule before skip [] = []
sweep rule before zero (x ∷ s) = let turn = rule before (x ∷ s) in turn.fresh ++ sweep rule x turn.more s
sweep rule before (suc skip) (x ∷ s) = sweep rule x skip s

unfoldable pub reached : (List ℕ → Bool) → Rule → ℕ → ℕ → List ℕ → Bool
reached test rule before skip [] = false
reached test rule before zero (x ∷ s) = test (x ∷ s) || reached test rule x (rule before (x ∷ s)).more s
reached test rule before (suc skip) (x ∷ s) = reached test rule x skip s

-- ---- str::replace
abbrev pub replacing : List ℕ → List ℕ → Rule
replacing pattern fresh before s = cond (starts pattern s) (taken (length pattern) fresh) (kept s)

unfoldable pub replace : List ℕ → List ℕ → List ℕ → List ℕ
unfolding sweep
replace pattern fresh s = sweep (replacing pattern fresh) 0 0 s
