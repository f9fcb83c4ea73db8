-- Laws of equal texts, and of lists of names.
--     same-starts                  texts of one length are the same where one begins with the other
--     InRow, row_of, row-one-of    a text is one of the names exactly if it stands in a row
--     all_rows, row-rule            a rule for every row: a test, which antt computes, and what it says of a row
-- Assumes nothing.
use Rattle.std.specs.Prelude.{◌≡◌, refl, Bool, true, false, ◌&&◌, List, [], ◌∷◌, ℕ, zero, suc, ◌<◌, eqb, length, get_or}
use Rattle.std.proofs.Common.{sym, ap, ap₂, not-suc-le-zero, le_of_suc-le-suc, arith, eqb-true, eq-eqb, ne_eqb}
use Rattle.std.proofs.Math.Bool.{and_comm, and-false}
use Rattle.std.proofs.lemmas.Bool.{false≢true, eqb-false}
use Rattle.spec.specs.Symbols.{same, starts}
use Rattle.spec.specs.Finish.{one_of}
use Rattle.spec.specs.Laws.Booleans.{and_left, and_right, or_left, or_right, or_split}

-- ---- equal texts
pub same_refl : (s : List ℕ) → same s s ≡ true
same_refl [] = refl
same_refl (x ∷ s) = rw (eq-eqb x x refl) (same_refl s)

pub same-eq : (s t : List ℕ) → same s t ≡ true → s ≡ t
same-eq [] [] e = refl
same-eq [] (y ∷ t) e = absurd (false≢true e)
same-eq (x ∷ s) [] e = absurd (false≢true e)
same-eq (x ∷ s) (y ∷ t) e = ap₂ (λ z l. z ∷ l) (eqb-true x y (and_left (eqb x y) (same s t) e)) (same-eq s t (and_right (eqb x y) (same s t) e))

pub same-other-length : (s t : List ℕ) → (length s ≡ length t → ⊥) → same s t ≡ false
same-other-length [] [] h = absurd (h refl)
same-other-length [] (y ∷ t) h = refl
same-other-length (x ∷ s) [] h = refl
same-other-length (x ∷ s) (y ∷ t) h = rw (same-other-length s t (λ e. h (ap suc e))) (and-false (eqb x y))

pub same-starts : (s t : List ℕ) → length s ≡ length t → same s t ≡ starts t s
same-starts [] [] h = refl
same-starts [] (y ∷ t) h = absurd (omega arith)
same-starts (x ∷ s) [] h = absurd (omega arith)
same-starts (x ∷ s) (y ∷ t) h = rw (same-starts s t (omega arith)) (and_comm (eqb x y) (starts t s))

pub eqb-sym : (x y : ℕ) → eqb x y ≡ eqb y x
eqb-sym x y = go (eqb x y) refl
  where
    go : (t : Bool) → eqb x y ≡ t → t ≡ eqb y x
    go true e = sym (eq-eqb y x (sym (eqb-true x y e)))
    go false e = sym (ne_eqb y x (λ q. eqb-false x y e (sym q)))

pub same-sym : (s t : List ℕ) → same s t ≡ same t s
same-sym [] [] = refl
same-sym [] (y ∷ t) = refl
same-sym (x ∷ s) [] = refl
same-sym (x ∷ s) (y ∷ t) = ap₂ (λ a b. a && b) (eqb-sym x y) (same-sym s t)

-- ---- one of the names
pub record InRow (names : List (List ℕ)) (s : List ℕ) : Type 0 where
  pub row : ℕ
  pub within : row < length names
  pub holds : get_or names row [] ≡ s

pub row_of : (names : List (List ℕ)) (s : List ℕ) → one_of names s ≡ true → InRow names s
row_of [] s e = absurd (false≢true e)
row_of (name ∷ names) s e = or_split (same name s) (one_of names s) e
    (λ t. record { row = 0; within = omega arith; holds = same-eq name s t })
    (λ o. let r = row_of names s o in record { row = suc r.row; within = omega arith; holds = r.holds })

pub row-one-of : (names : List (List ℕ)) (row : ℕ) → row < length names → one_of names (get_or names row []) ≡ true
row-one-of [] row h = absurd (not-suc-le-zero h)
row-one-of (name ∷ names) zero h = or_left (one_of names name) (same_refl name)
row-one-of (name ∷ names) (suc row) h = or_right (same name (get_or names row [])) (one_of names (get_or names row [])) (row-one-of names row (le_of_suc-le-suc h))

-- ---- every row
abbrev pub all_rows : (List ℕ → Bool) → List (List ℕ) → Bool
all_rows f [] = true
all_rows f (w ∷ ws) = f w && all_rows f ws

pub row-rule : (f : List ℕ → Bool) (table : List (List ℕ)) → all_rows f table ≡ true → (i : ℕ) → i < length table → f (get_or table i []) ≡ true
row-rule f [] t i h = absurd (not-suc-le-zero h)
row-rule f (w ∷ ws) t zero h = and_left (f w) (all_rows f ws) t
row-rule f (w ∷ ws) t (suc i) h = row-rule f ws (and_right (f w) (all_rows f ws) t) i (le_of_suc-le-suc h)
