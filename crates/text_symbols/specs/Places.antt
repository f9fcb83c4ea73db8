-- Places in a text. From place i the symbols ahead are `drop i s`, and those behind, nearest first, `before s i`.
--     AheadTo, BackTo    what a search to the right, to the left, ensures: the place that it comes to, and what is left over from there
-- Assumes nothing.
use Rattle.std.specs.Prelude.{◌≡◌, refl, List, [], ◌∷◌, reverse, ℕ, zero, suc, ◌+◌, ◌-◌, ◌≤◌, ◌<◌, length, get_or, take, drop}
use Rattle.std.proofs.Common.{ap, ◌∙◌, not-suc-le-zero, arith, length-take, drop_of_length-le, take-suc}
use Rattle.std.proofs.lemmas.List.{reverse-append, length-reverse}
use Rattle.std.proofs.Math.Seq.{take-length}
use Rattle.spec.specs.Symbols.{head}

abbrev pub before : List ℕ → ℕ → List ℕ
before s i = reverse (take i s)

pub record AheadTo (s : List ℕ) (start r : ℕ) (l : List ℕ) : Type 0 where
  pub from : start ≤ r
  pub within : r ≤ length s
  pub left : drop r s ≡ l

pub record BackTo (s : List ℕ) (end r : ℕ) (l : List ℕ) : Type 0 where
  pub to : r ≤ end
  pub left : before s r ≡ l

pub drop-none : (s : List ℕ) (i : ℕ) → length s ≤ i → drop i s ≡ []
drop-none s i h = drop_of_length-le s h

-- ---- one step back
pub before-step : (s : List ℕ) (i : ℕ) → 0 < i → i ≤ length s → before s i ≡ get_or s (i - 1) 0 ∷ before s (i - 1)
before-step s zero h within = absurd (not-suc-le-zero h)
before-step s (suc i) h within =
    let e : suc i - 1 ≡ i = omega arith in
    rw (e, take-suc s i 0 within) (reverse-append (take i s) (get_or s i 0 ∷ []))

pub before-next : (s : List ℕ) (i : ℕ) → i < length s → before s (i + 1) ≡ get_or s i 0 ∷ before s i
before-next s i h =
    let z : i + 1 - 1 ≡ i = omega arith in
    before-step s (i + 1) (omega arith) (omega arith) ∙ ap (λ j. get_or s j 0 ∷ before s j) z

pub before-none : (s : List ℕ) (i : ℕ) → i ≤ 0 → before s i ≡ []
before-none s zero h = refl
before-none s (suc i) h = absurd (not-suc-le-zero h)

pub before-all : (s : List ℕ) → before s (length s) ≡ reverse s
before-all s = ap reverse (take-length s)

pub head-before : (s : List ℕ) (i : ℕ) → i ≤ length s → head (before s i) ≡ get_or (0 ∷ s) i 0
head-before s zero h = refl
head-before s (suc i) h =
    let e : suc i - 1 ≡ i = omega arith in
    ap head (before-step s (suc i) (omega arith) h) ∙ ap (λ k. get_or s k 0) e

pub length_before : (s : List ℕ) (i : ℕ) → i ≤ length s → length (before s i) ≡ i
length_before s i h = length-reverse (take i s) ∙ (simp length-take (omega arith))
