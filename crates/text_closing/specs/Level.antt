-- The tally of a text whose brackets are to be level: it counts one bracket more than the definition. Assumes nothing.
use Rattle.std.specs.Prelude.{◌≡◌, List, ◌∷◌, eqb, length, drop}
use Rattle.std.proofs.Math.Path.{refl, ap}
use Rattle.std.proofs.Common.{sym, ◌∙◌, not-suc-le-zero, sub-one, arith, ne_eqb, drop_of_length-le}
use Rattle.std.proofs.Math.Bool.{false}
use Prim.Native.Nat.{ℕ, zero, suc, pred, ◌-◌, ◌<◌, ◌≤◌}
use Rattle.spec.specs.Closing.{Side, opens, closes, neither, side_of, depth_after, level}

module _ (o c d x : ℕ) (s : List ℕ) (some-open : 0 < d) where
  -- the depth after the symbol
  abbrev next : ℕ
  next = depth_after (side_of (eqb x o) (eqb x c)) d

  pub level-here : next ≡ 0 → level o c (d - 1) (x ∷ s) ≡ false
  unfolding level
  level-here e = go (side_of (eqb x o) (eqb x c)) refl d some-open e
    where
      go : (side : Side) → side_of (eqb x o) (eqb x c) ≡ side → (d : ℕ) → 0 < d → depth_after side d ≡ 0 → level o c (d - 1) (x ∷ s) ≡ false
      go opens f d h e = absurd (omega arith)
      go closes f d h e = ap (λ k. level o c k (x ∷ s)) (sub-one d ∙ e) ∙ rw (f, level)
      go neither f d h e = absurd (omega arith)

  -- the definition has a case for no bracket and one for some: both step alike
  pub level-past : 0 < next → level o c (d - 1) (x ∷ s) ≡ level o c (next - 1) s
  unfolding level
  level-past h = go (side_of (eqb x o) (eqb x c)) refl d some-open h
    where
      deeper : (k : ℕ) → side_of (eqb x o) (eqb x c) ≡ opens → level o c k (x ∷ s) ≡ level o c (suc k) s
      deeper zero f = rw (f, level)
      deeper (suc k) f = rw (f, level)

      same : (k : ℕ) → side_of (eqb x o) (eqb x c) ≡ neither → level o c k (x ∷ s) ≡ level o c k s
      same zero f = rw (f, level)
      same (suc k) f = rw (f, level)

      go : (side : Side) → side_of (eqb x o) (eqb x c) ≡ side → (d : ℕ) → 0 < d → 0 < depth_after side d → level o c (d - 1) (x ∷ s) ≡ level o c (depth_after side d - 1) s
      go opens f d h e = let z : suc d - 1 ≡ suc (d - 1) = omega arith in deeper (d - 1) f ∙ ap (λ k. level o c k s) (sym z)
      go closes f d h e = let z : d - 1 ≡ suc (pred d - 1) = omega arith in ap (λ k. level o c k (x ∷ s)) z ∙ rw (f, level)
      go neither f d h e = same (d - 1) f

-- at the end the brackets are level where the tally's first one alone is open
pub level-end : (o c d : ℕ) (s : List ℕ) (i : ℕ) → 0 < d → length s ≤ i → level o c (d - 1) (drop i s) ≡ eqb d 1
unfolding level
level-end o c zero s i h e = absurd (not-suc-le-zero h)
level-end o c (suc zero) s i h e = ap (level o c 0) (drop_of_length-le s e)
level-end o c (suc (suc d)) s i h e =
    let z : suc (suc d) - 1 ≡ suc d = omega arith in
    ap (λ k. level o c k (drop i s)) z ∙ ap (level o c (suc d)) (drop_of_length-le s e) ∙ sym (ne_eqb (suc (suc d)) 1 (λ q. omega arith))
