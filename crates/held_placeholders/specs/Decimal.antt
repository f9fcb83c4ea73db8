-- The digits that `counted` gives: a placeholder's number is written in digits alone, and two numbers have two texts. Assumes nothing.
--     Digits      all symbols of a text are digits
--     worth       what digits are worth, the last digit first
use Rattle.std.specs.Prelude.{◌≡◌, refl, Bool, true, false, ℕ, zero, suc, ◌+◌, ◌-◌, ◌*◌, ◌≤◌}
use Rattle.std.proofs.Common.{sym, ap, ◌∙◌, arith, eqb-true}
use mathlib.Core.List.{List, [], ◌∷◌, ◌++◌, reverse, reverse-cons, reverse-reverse}
use Prim.Native.Char.{code}
use Rattle.std.proofs.lemmas.Bool.{eqb-false}
use Rattle.spec.specs.Symbols.{is}
use Rattle.spec.specs.Program.{up, counted}
pub use Rattle.spec.specs.Program.{decimal}

-- a digit as a number: from the code of `0` to that of `9`
pub record Digit (d : ℕ) : Type 0 where
  pub low : code "0" ≤ d
  pub high : d ≤ code "9"

unfoldable pub Digits : List ℕ → Type 0
Digits [] = Unit {0}
Digits (d ∷ ds) = Digit d × Digits ds

zero-digit : Digit (code "0")
zero-digit = record { low = omega arith; high = omega arith }

-- ---- they are digits
up-digits : (ds : List ℕ) → Digits ds → Digits (up ds)
unfolding up Digits
up-digits [] h = (record { low = omega arith; high = omega arith }, tt)
up-digits (d ∷ ds) h = go (is "9" d) refl (up-digits ds h.1)
  where
    go : (t : Bool) → is "9" d ≡ t → Digits (up ds) → Digits (elim t as (λ _. List ℕ) [ true ↦ code "0" ∷ up ds | false ↦ suc d ∷ ds ])
    go true e next = (zero-digit, next)
    go false e next = let other = eqb-false d (code "9") e in let low = h.0.low in let high = h.0.high in (record { low = omega arith; high = omega arith }, h.1)

pub counted-digits : (n : ℕ) → Digits (counted n)
unfolding counted Digits
counted-digits zero = (zero-digit, tt)
counted-digits (suc n) = up-digits (counted n) (counted-digits n)

digits_append : (xs ys : List ℕ) → Digits xs → Digits ys → Digits (xs ++ ys)
unfolding Digits
digits_append [] ys h g = g
digits_append (x ∷ xs) ys h g = (h.0, digits_append xs ys h.1 g)

pub digits-reverse : (xs : List ℕ) → Digits xs → Digits (reverse xs)
unfolding Digits
digits-reverse [] h = h
digits-reverse (x ∷ xs) h = rw (reverse-cons x xs) (digits_append (reverse xs) (x ∷ []) (digits-reverse xs h.1) (h.0, tt))

pub decimal-digits : (n : ℕ) → Digits (decimal n)
decimal-digits n = digits-reverse (counted n) (counted-digits n)

-- ---- two numbers have two texts
unfoldable pub worth : List ℕ → ℕ
worth [] = 0
worth (d ∷ ds) = (d - code "0") + 10 * worth ds

pub up-worth : (ds : List ℕ) → Digits ds → worth (up ds) ≡ suc (worth ds)
unfolding up worth Digits
up-worth [] h = refl
up-worth (d ∷ ds) h = go (is "9" d) refl (up-worth ds h.1)
  where
    go : (t : Bool) → is "9" d ≡ t → worth (up ds) ≡ suc (worth ds) → worth (elim t as (λ _. List ℕ) [ true ↦ code "0" ∷ up ds | false ↦ suc d ∷ ds ]) ≡ suc ((d - 48) + 10 * worth ds)
    go true e next = let nine = eqb-true d (code "9") e in omega arith
    go false e next = let low = h.0.low in omega arith

pub counted-worth : (n : ℕ) → worth (counted n) ≡ n
unfolding counted worth
counted-worth zero = refl
counted-worth (suc n) = up-worth (counted n) (counted-digits n) ∙ ap suc (counted-worth n)

pub decimal_injective : (i j : ℕ) → decimal i ≡ decimal j → i ≡ j
decimal_injective i j e =
    let same : counted i ≡ counted j = sym (reverse-reverse (counted i)) ∙ ap reverse e ∙ reverse-reverse (counted j) in
    sym (counted-worth i) ∙ ap worth same ∙ counted-worth j
