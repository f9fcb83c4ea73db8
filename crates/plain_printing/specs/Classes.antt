-- Classes of symbols tell symbols apart: what holds of x and not of k says that x is not k.
use Rattle.std.specs.Prelude.{◌≡◌, refl, Bool, true, false, not, ◌&&◌, ◌||◌, List, [], ◌∷◌, ◌++◌, ℕ, eqb}
use Rattle.std.proofs.Common.{sym, ap, ◌∙◌, true≢false, eqb-true}
use Rattle.std.proofs.lemmas.Bool.{not-true}
use Rattle.spec.specs.Symbols.{all}
use Rattle.spec.specs.Laws.Booleans.{and_left, and_right, and_both, untrue}

pub apart : (f : ℕ → Bool) (x k : ℕ) → f x ≡ true → f k ≡ false → eqb x k ≡ false
apart f x k yes-x no-k = untrue (eqb x k) (λ t. true≢false (sym yes-x ∙ ap f (eqb-true x k t) ∙ no-k))

-- one of the listed symbols
abbrev pub any_of : List ℕ → ℕ → Bool
any_of [] x = false
any_of (k ∷ ks) x = eqb x k || any_of ks x

pub any-all : (f : ℕ → Bool) (ks : List ℕ) (x : ℕ) → all f ks ≡ true → any_of ks x ≡ true → f x ≡ true
any-all f [] x h e = absurd (true≢false (sym e))
any-all f (k ∷ ks) x h e = go (eqb x k) refl e (λ q. any-all f ks x (and_right (f k) (all f ks) h) q)
  where
    go : (b : Bool) → eqb x k ≡ b → b || any_of ks x ≡ true → (any_of ks x ≡ true → f x ≡ true) → f x ≡ true
    go true p q ih = ap f (eqb-true x k p) ∙ and_left (f k) (all f ks) h
    go false p q ih = ih q

-- none of the listed symbols
abbrev pub none_of : List ℕ → ℕ → Bool
none_of [] x = true
none_of (k ∷ ks) x = not (eqb x k) && none_of ks x

abbrev pub outside : (ℕ → Bool) → List ℕ → Bool
outside f [] = true
outside f (k ∷ ks) = not (f k) && outside f ks

-- a class that holds of none of the listed symbols: by a test
pub excludes : (f : ℕ → Bool) (ks : List ℕ) → outside f ks ≡ true → (x : ℕ) → f x ≡ true → none_of ks x ≡ true
excludes f [] t x h = refl
excludes f (k ∷ ks) t x h =
    and_both (ap not (apart f x k h (not-true (f k) (and_left (not (f k)) (outside f ks) t)))) (excludes f ks (and_right (not (f k)) (outside f ks) t) x h)

-- ---- every symbol of a text
pub all-weaken : (f g : ℕ → Bool) → ((x : ℕ) → f x ≡ true → g x ≡ true) → (s : List ℕ) → all f s ≡ true → all g s ≡ true
all-weaken f g up [] h = refl
all-weaken f g up (x ∷ s) h =
    and_both (up x (and_left (f x) (all f s) h)) (all-weaken f g up s (and_right (f x) (all f s) h))

pub all_append : (f : ℕ → Bool) (s t : List ℕ) → all f s ≡ true → all f t ≡ true → all f (s ++ t) ≡ true
all_append f [] t p q = q
all_append f (x ∷ s) t p q = and_both (and_left (f x) (all f s) p) (all_append f s t (and_right (f x) (all f s) p) q)
