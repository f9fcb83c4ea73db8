-- What one turn of a copy does, and all of them. Assumes nothing.
use mathlib.Core.Path.{◌≡◌, refl, ap}
use mathlib.Core.List.{List, [], ◌∷◌, ◌++◌}
use Prim.Native.Nat.{ℕ, zero, suc, ◌+◌, ◌<◌}
use native.Mathlib.Omega.{arith}
use native.Mathlib.Numerals.{add-one}
use lib.ListN.{length, get_or, take, drop, set}
use lib.Seq.{take-length}

copy-suc : (i : ℕ) (s d : List ℕ) → i < length s → i < length d → set (take i s ++ drop i d) i (get_or s i 0) ≡ take (suc i) s ++ drop (suc i) d
copy-suc i [] d h l = absurd (omega arith)
copy-suc i (x ∷ s) [] h l = absurd (omega arith)
copy-suc zero (x ∷ s) (y ∷ d) h l = refl
copy-suc (suc i) (x ∷ s) (y ∷ d) h l = ap (λ (t : List ℕ). x ∷ t) (copy-suc i s d (omega arith) (omega arith))

pub copy_more : (i : ℕ) (s d : List ℕ) → i < length s → i < length d → set (take i s ++ drop i d) i (get_or s i 0) ≡ take (i + 1) s ++ drop (i + 1) d
copy_more i s d h l = rw (add-one i) (copy-suc i s d h l)

pub copied_all : (i : ℕ) (s d : List ℕ) → i ≡ length s → take i s ++ drop i d ≡ s ++ drop (length s) d
copied_all i s d e = rw (e, take-length)
