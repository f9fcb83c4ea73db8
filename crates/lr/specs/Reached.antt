-- Laws of `reached`: whether a sweep comes to a place where a test holds.
--     comes     the same from place i on
-- Assumes nothing.
use Rattle.std.specs.Prelude.{◌≡◌, Bool, false, ◌||◌, length, get_or, drop}
use Rattle.std.proofs.Math.Path.{refl, ap}
use Rattle.std.proofs.Common.{◌∙◌, not-suc-le-zero, drop_of_length-le}
use mathlib.Core.List.{List, [], ◌∷◌}
use Prim.Native.Nat.{ℕ, zero, suc, ◌+◌, ◌<◌, ◌≤◌}
use Rattle.std.proofs.Math.Nat.{add-suc}
use native.Mathlib.Omega.{arith}
use Rattle.std.proofs.Math.ListN.{length-drop}
use Rattle.std.proofs.Math.Seq.{drop-drop, get_or-drop}
use Rattle.spec.specs.Sweep.{Turn, Rule, reached}

module _ (test : List ℕ → Bool) where
  unfoldable pub comes : Rule → List ℕ → ℕ → Bool
  comes rule s i = reached test rule (get_or (0 ∷ s) i 0) 0 (drop i s)

  skipped : (rule : Rule) (before skip : ℕ) (s : List ℕ) → reached test rule before skip s ≡ reached test rule (get_or (before ∷ s) skip 0) 0 (drop skip s)
  unfolding reached
  skipped rule before zero [] = refl
  skipped rule before (suc skip) [] = refl
  skipped rule before zero (x ∷ s) = refl
  skipped rule before (suc skip) (x ∷ s) = skipped rule x skip s

  first-turn :
      (rule : Rule) (before : ℕ) (s : List ℕ) → 0 < length s
      → reached test rule before 0 s ≡ test s || reached test rule (get_or s (rule before s).more 0) 0 (drop (suc (rule before s).more) s)
  unfolding reached
  first-turn rule before [] h = absurd (not-suc-le-zero h)
  first-turn rule before (x ∷ s) h = ap (λ b. test (x ∷ s) || b) (skipped rule x (rule before (x ∷ s)).more s)

  pub comes-first : (rule : Rule) (s : List ℕ) → comes rule s 0 ≡ reached test rule 0 0 s
  unfolding comes
  comes-first rule s = refl

  -- one turn at place i
  pub comes-turn :
      (rule : Rule) (s : List ℕ) (i : ℕ) → i < length s → {t : Turn} → rule (get_or (0 ∷ s) i 0) (drop i s) ≡ t
      → comes rule s i ≡ test (drop i s) || comes rule s (i + 1 + t.more)
  unfolding comes
  comes-turn rule s i inside {t} e =
      let next : i + 1 + t.more ≡ suc (i + t.more) = omega arith in
      first-turn rule (get_or (0 ∷ s) i 0) (drop i s) (simp length-drop (omega arith))
      ∙ (rw (e, next, get_or-drop i s t.more 0, drop-drop (suc t.more) i s, add-suc i t.more))

  pub comes-end : (rule : Rule) (s : List ℕ) (i : ℕ) → length s ≤ i → comes rule s i ≡ false
  unfolding comes reached
  comes-end rule s i h = rw (drop_of_length-le s h)
