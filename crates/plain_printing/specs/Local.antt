-- Properties of a text that show at every three symbols in a row, and what they keep a stage from finding.
use Rattle.std.specs.Prelude.{◌≡◌, refl, Bool, true, false, ◌&&◌, List, [], ◌∷◌, ℕ, eqb}
use Rattle.std.proofs.Common.{sym, ◌∙◌, true≢false, eqb-true}
use Rattle.std.proofs.Math.Option.{none}
use Rattle.spec.specs.Symbols.{starts, find}
use Rattle.spec.specs.Laws.Booleans.{and_left, and_right, and_both, untrue}
use Rattle.spec.specs.Laws.Symbols.{find_past}

-- a and b stand before the text
abbrev pub chain : (ℕ → ℕ → ℕ → Bool) → ℕ → ℕ → List ℕ → Bool
chain R a b [] = true
chain R a b (c ∷ s) = R a b c && chain R b c s

-- every two symbols in a row, x before the text
abbrev pub every_pair : (ℕ → ℕ → Bool) → ℕ → List ℕ → Bool
every_pair P x [] = true
every_pair P x (y ∷ s) = P x y && every_pair P y s

pub chain-pairs : (R : ℕ → ℕ → ℕ → Bool) (P : ℕ → ℕ → Bool) → ((a b c : ℕ) → R a b c ≡ true → P b c ≡ true) → (a b : ℕ) (s : List ℕ) → chain R a b s ≡ true → every_pair P b s ≡ true
chain-pairs R P up a b [] h = refl
chain-pairs R P up a b (c ∷ s) h =
    and_both (up a b c (and_left (R a b c) (chain R b c s) h)) (chain-pairs R P up b c s (and_right (R a b c) (chain R b c s) h))

-- ---- a pattern that breaks the rule is not found
-- where a text begins with a pattern, the pattern keeps the text's rule
pub starts-pairs : (P : ℕ → ℕ → Bool) (x : ℕ) (w s : List ℕ) → every_pair P x s ≡ true → starts w s ≡ true → every_pair P x w ≡ true
starts-pairs P x [] s h e = refl
starts-pairs P x (k ∷ w) [] h e = absurd (true≢false (sym e))
starts-pairs P x (k ∷ w) (y ∷ s) h e =
    let equal : y ≡ k = eqb-true y k (and_right (starts w s) (eqb y k) e) in
    let first : P x k ≡ true = rw equal at (and_left (P x y) (every_pair P y s) h) in
    let later : every_pair P k s ≡ true = rw equal at (and_right (P x y) (every_pair P y s) h) in
    and_both first (starts-pairs P k w s later (and_left (starts w s) (eqb y k) e))

no_start : (P : ℕ → ℕ → Bool) (k : ℕ) (w : List ℕ) → every_pair P k w ≡ false → (y : ℕ) (s : List ℕ) → every_pair P y s ≡ true → starts (k ∷ w) (y ∷ s) ≡ false
no_start P k w broken y s h = untrue (starts (k ∷ w) (y ∷ s)) (λ e. true≢false (sym (kept e) ∙ broken))
  where
    kept : starts (k ∷ w) (y ∷ s) ≡ true → every_pair P k w ≡ true
    kept e =
        let equal : y ≡ k = eqb-true y k (and_right (starts w s) (eqb y k) e) in
        starts-pairs P k w s (rw equal at h) (and_left (starts w s) (eqb y k) e)

pub pairs-absent : (P : ℕ → ℕ → Bool) (k : ℕ) (w : List ℕ) → every_pair P k w ≡ false → (x : ℕ) (s : List ℕ) → every_pair P x s ≡ true → find (k ∷ w) s ≡ none
unfolding find
pairs-absent P k w broken x [] h = refl
pairs-absent P k w broken x (y ∷ s) h =
    let later : every_pair P y s ≡ true = and_right (P x y) (every_pair P y s) h in
    find_past (k ∷ w) y s (no_start P k w broken y s later) ∙ pairs-absent P k w broken y s later
