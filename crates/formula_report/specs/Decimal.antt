-- A number's decimal digits one by one. Assumes nothing.
--     decimal-one     a number below ten is one digit
--     decimal-more    any other has the digits of its tenth, and then its last digit
--     four-digits     a number below 10,000 has at most four
use Rattle.std.specs.Prelude.{◌≡◌, refl, ℕ, zero, suc, ◌+◌, ◌*◌, ◌/◌, ◌%◌, ◌≤◌, ◌<◌, length}
use Rattle.std.proofs.Common.{sym, ap, ap₂, ◌∙◌, arith, ne_eqb, eq-eqb}
use mathlib.Core.List.{List, [], ◌∷◌, ◌++◌, reverse, reverse-cons}
use Prim.Native.Char.{code}
use Rattle.std.proofs.Math.Decide.{dec_lt}
use Rattle.std.proofs.lemmas.List.{length-reverse}
use Rattle.spec.specs.Program.{up, counted, decimal}

abbrev pub last_digit : ℕ → ℕ
last_digit n = n % 10 + code "0"

-- ---- the last digit first
up-nine : (d : ℕ) (ds : List ℕ) → d ≡ code "9" → up (d ∷ ds) ≡ code "0" ∷ up ds
unfolding up
up-nine d ds e = rw (eq-eqb d (code "9") e, up)

up-other : (d : ℕ) (ds : List ℕ) → (d ≡ code "9" → ⊥) → up (d ∷ ds) ≡ suc d ∷ ds
unfolding up
up-other d ds e = rw (ne_eqb d (code "9") e, up)

counted-one : (n : ℕ) → n < 10 → counted n ≡ last_digit n ∷ []
unfolding counted
counted-one zero h = refl
counted-one (suc n) h =
    let last : suc (last_digit n) ≡ last_digit (suc n) = omega arith in
    ap up (counted-one n (omega arith)) ∙ up-other (last_digit n) [] (λ e. omega arith) ∙ ap (λ (d : ℕ). d ∷ []) last

up-counted : (n : ℕ) → 10 ≤ suc n → (10 ≤ n → counted n ≡ last_digit n ∷ counted (n / 10)) → counted (suc n) ≡ last_digit (suc n) ∷ counted (suc n / 10)
unfolding counted up
up-counted n h before = go (dec_lt n 10) (dec_lt (n % 10) 9)
  where
    go : Dec (n < 10) → Dec (n % 10 < 9) → counted (suc n) ≡ last_digit (suc n) ∷ counted (suc n / 10)
    go (yes few) _ =
        let nine : n ≡ 9 = omega arith in
        ap (λ (m : ℕ). counted (suc m)) nine ∙ ap (λ (m : ℕ). last_digit (suc m) ∷ counted (suc m / 10)) (sym nine)
    go (no many) (yes less) =
        let last : suc (last_digit n) ≡ last_digit (suc n) = omega arith in
        let tenth : n / 10 ≡ suc n / 10 = omega arith in
        ap up (before (omega arith)) ∙ up-other (last_digit n) (counted (n / 10)) (λ e. omega arith) ∙ ap₂ (λ d m. d ∷ counted m) last tenth
    go (no many) (no nine) =
        let last : code "0" ≡ last_digit (suc n) = omega arith in
        let tenth : suc (n / 10) ≡ suc n / 10 = omega arith in
        ap up (before (omega arith)) ∙ up-nine (last_digit n) (counted (n / 10)) (omega arith) ∙ ap₂ (λ d m. d ∷ counted m) last tenth

counted-more : (n : ℕ) → 10 ≤ n → counted n ≡ last_digit n ∷ counted (n / 10)
counted-more zero h = absurd (omega arith)
counted-more (suc n) h = up-counted n h (counted-more n)

-- ---- the first digit first
pub decimal-one : (n : ℕ) → n < 10 → decimal n ≡ last_digit n ∷ []
decimal-one n h = ap reverse (counted-one n h)

pub decimal-more : (n : ℕ) → 10 ≤ n → decimal n ≡ decimal (n / 10) ++ (last_digit n ∷ [])
decimal-more n h = ap reverse (counted-more n h) ∙ reverse-cons (last_digit n) (counted (n / 10))

-- ---- how many there are: one more for a number ten times as large
long-more : (digits most : ℕ) → ((n : ℕ) → n < most → length (counted n) ≤ digits) → (n : ℕ) → n < 10 * most → length (counted n) ≤ suc digits
long-more digits most long n h = go (dec_lt n 10)
  where
    go : Dec (n < 10) → length (counted n) ≤ suc digits
    go (yes few) = rw (counted-one n few) (omega arith)
    go (no many) = let l = long (n / 10) (omega arith) in rw (counted-more n (omega arith)) (omega arith)

pub four-digits : (n : ℕ) → n < 10000 → length (decimal n) ≤ 4
four-digits n h = rw (length-reverse (counted n)) (long-more 3 1000 (long-more 2 100 (long-more 1 10 one)) n h)
  where
    one : (n : ℕ) → n < 10 → length (counted n) ≤ 1
    one n h = rw (counted-one n h) (omega arith)
