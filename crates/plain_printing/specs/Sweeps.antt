-- Sweeps that leave a text as it is.
--     sweep-copies    a rule that writes, at every place, the very symbols that it takes
--     sweep-chain     the same, where it follows from a property of three symbols in a row
use Rattle.std.specs.Prelude.{◌≡◌, refl, Bool, true, List, [], ◌∷◌, ◌++◌, ℕ, zero, suc, length, take, drop}
use Rattle.std.proofs.Common.{ap, ◌∙◌, take-append-drop}
use Rattle.spec.specs.Sweep.{Turn, Rule, sweep}
use Rattle.spec.specs.Laws.Booleans.{and_right}
use Rattle.plain_printing.specs.Local.{chain}
use Rattle.plain_printing.specs.Rule.{last}

-- at every place of a text; `before` stands before it
abbrev pub Everywhere : (ℕ → List ℕ → Type 0) → ℕ → List ℕ → Type 0
Everywhere P before [] = Unit {0}
Everywhere P before (x ∷ s) = P before (x ∷ s) × Everywhere P x s

-- what is written is what is taken
abbrev pub Copies : Rule → ℕ → List ℕ → Type 0
Copies rule before s = (rule before s).fresh ≡ take (suc (rule before s).more) s

pub sweep-copies : (rule : Rule) (s : List ℕ) (before skip : ℕ) → Everywhere (Copies rule) before s → sweep rule before skip s ≡ drop skip s
unfolding sweep
sweep-copies rule [] before zero h = refl
sweep-copies rule [] before (suc skip) h = refl
sweep-copies rule (x ∷ s) before zero h =
    let turn : Turn = rule before (x ∷ s) in
    ap (λ (l : List ℕ). l ++ sweep rule x turn.more s) h.0
    ∙ ap {B = List ℕ} (λ l. x ∷ l) (ap (λ (l : List ℕ). take turn.more s ++ l) (sweep-copies rule s x turn.more h.1) ∙ take-append-drop turn.more s)
sweep-copies rule (x ∷ s) before (suc skip) h = sweep-copies rule s x skip h.1

-- ---- symbols that a turn has taken are passed
pub sweep-skip : (rule : Rule) (u r : List ℕ) (before : ℕ) → sweep rule before (length u) (u ++ r) ≡ sweep rule (last before u) 0 r
unfolding sweep
sweep-skip rule [] r before = refl
sweep-skip rule (x ∷ u) r before = sweep-skip rule u r x

-- on a text whose symbols keep a rule of three in a row
module _ (R : ℕ → ℕ → ℕ → Bool) (r : Rule) (copies : (a before : ℕ) (s : List ℕ) → chain R a before s ≡ true → Copies r before s) where
  chain-everywhere : (s : List ℕ) (a before : ℕ) → chain R a before s ≡ true → Everywhere (Copies r) before s
  chain-everywhere [] a before h = tt
  chain-everywhere (x ∷ s) a before h = (copies a before (x ∷ s) h, chain-everywhere s before x (and_right (R a before x) (chain R before x s) h))

  pub sweep-chain : (s : List ℕ) → chain R 0 0 s ≡ true → sweep r 0 0 s ≡ s
  sweep-chain s h = sweep-copies r s 0 0 (chain-everywhere s 0 0 h)
