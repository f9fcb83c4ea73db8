-- A function that counts open brackets, and goes on from behind their closer as if none had been open, is a closing search. Assumes nothing.
use Rattle.std.specs.Prelude.{◌≡◌}
use Rattle.std.proofs.Math.Path.{refl}
use Rattle.std.proofs.Common.{◌∙◌}
use mathlib.Core.List.{List, [], ◌∷◌}
use Rattle.std.proofs.Math.Option.{some}
use Prim.Native.Nat.{ℕ, zero, suc}
use Rattle.spec.specs.Closing.{Side, opens, closes, neither, side, depth_after, close, or_end}

module _
    (o c : ℕ) (f : ℕ → List ℕ → List ℕ) (last : (d : ℕ) → f (suc d) [] ≡ f 0 [])
    (next : (d x : ℕ) (s : List ℕ) → f (suc d) (x ∷ s) ≡ f (depth_after (side o c x) (suc d)) s)
  where
    pub group-closing : (d : ℕ) (s : List ℕ) → f (suc d) s ≡ f 0 (or_end (close o c d s))
    unfolding close
    group-closing d [] = last d
    group-closing d (x ∷ s) = next d x s ∙ go d (side o c x) (λ d. group-closing d s)
      where
        go : (d : ℕ) (k : Side) → ((d : ℕ) → f (suc d) s ≡ f 0 (or_end (close o c d s)))
            → f (depth_after k (suc d)) s ≡ f 0 (or_end (elim k [ opens ↦ close o c (suc d) s | closes ↦ elim d [ zero ↦ some s | suc e ↦ close o c e s ] | neither ↦ close o c d s ]))
        go d opens h = h (suc d)
        go zero closes h = refl
        go (suc d) closes h = h d
        go d neither h = h d
