-- Parts of the lent buffer, as slices of the code take them. Assumes nothing.
--     part from n w      the n symbols of w that begin at `from`
use Rattle.std.specs.Prelude.{◌≡◌, refl, List, [], ◌∷◌, ℕ, zero, suc, ◌+◌, ◌-◌, ◌≤◌, ◌<◌, length, get_or, take, drop}
use Rattle.std.proofs.Common.{sym, ap, ◌∙◌, sub-one, arith, length-take, length-drop, take_all, drop-drop, take-take, get_or-take, get_or-drop}
use Rattle.std.proofs.Math.Nat.{sub-zero, zero-sub, suc-sub-suc}
use Rattle.std.proofs.Math.Seq.{drop-nil, take-nil}

abbrev pub part : ℕ → ℕ → List ℕ → List ℕ
part from n w = take n (drop from w)

pub length_part : (from n : ℕ) (w : List ℕ) → from + n ≤ length w → length (part from n w) ≡ n
length_part from n w h = simp (length-take, length-drop) (omega arith)

pub get_d_part : (from n : ℕ) (w : List ℕ) (i : ℕ) → i < n → get_or (part from n w) i 0 ≡ get_or w (from + i) 0
get_d_part from n w i h = get_or-take n (drop from w) i 0 h ∙ get_or-drop from w i 0

pub get_or-before : (s : List ℕ) (i : ℕ) → (i ≡ 0 → ⊥) → get_or s (i - 1) 0 ≡ get_or (0 ∷ s) i 0
get_or-before s zero h = absurd (h refl)
get_or-before s (suc i) h = rw (sub-one (suc i))

pub drop-take : (i n : ℕ) (s : List ℕ) → drop i (take n s) ≡ take (n - i) (drop i s)
drop-take i n [] = rw (take-nil n, drop-nil i, take-nil (n - i))
drop-take zero n (b ∷ s) = rw (sub-zero n)
drop-take (suc i) zero (b ∷ s) = rw (zero-sub (suc i))
drop-take (suc i) (suc n) (b ∷ s) = rw (suc-sub-suc n i) (drop-take i n s)

-- the rest of a part, as `&w[from + i..from + n]` takes it
pub rest_part : (from n i : ℕ) (w : List ℕ) → part (from + i) (from + n - (from + i)) w ≡ drop i (part from n w)
rest_part from n i w =
    let e : from + n - (from + i) ≡ n - i = omega arith in
    rw (e, ← drop-drop i from w) (sym (drop-take i n (drop from w)))

-- all of a part, as `&w[from..from + n]` takes it
pub whole_part : (from n : ℕ) (w : List ℕ) → part from (from + n - from) w ≡ part from n w
whole_part from n w = let e : from + n - from ≡ n = omega arith in ap (λ m. part from m w) e

-- the rest of a slice, as `&s[i..]` takes it
pub rest_of : (i : ℕ) (s : List ℕ) → part i (length s - i) s ≡ drop i s
rest_of i s = take_all (length s - i) (drop i s) (simp length-drop (omega arith))

-- a part of a part
pub sub_part : (from n i m : ℕ) (w : List ℕ) → i + m ≤ n → part (from + i) m w ≡ take m (drop i (part from n w))
sub_part from n i m w h =
    let less : m ≤ n - i = omega arith in
    rw (drop-take i n (drop from w), take-take m (n - i) (drop i (drop from w)) less, drop-drop i from w)
