-- When the Rust loses a block, round by round: a typed number reads as a block that has not been put back yet, or a block holds a mark. Assumes nothing.
--     taken_for_placeholder  behind the mark of block k, in round i
--     lost_below            in one of the first n rounds
--     nested_below          one of the first n blocks holds a mark
use Rattle.std.specs.Prelude.{◌≡◌, refl, Bool, true, false, cond, ◌&&◌, ◌||◌, List, [], ◌∷◌, ℕ, zero, suc, ◌<◌, eqb, leb, ltb}
use Rattle.std.proofs.Common.{not-suc-le-zero, arith, eqb-true}
use Rattle.std.proofs.lemmas.Bool.{eqb-false}
use Rattle.held_placeholders.specs.Decimal.{decimal}
use Rattle.held_laws.specs.Marks.{is_mark, has_mark, not-text-mark}
use Rattle.held_placeholders.specs.Fill.{first, rest_numbers}
use Rattle.held_placeholders.specs.Replacing.{TextMarkFree}
use Rattle.spec.specs.Laws.Booleans.{or-neither}

-- the digits stand here, and a mark behind them
unfoldable pub digits_then_mark : List ℕ → List ℕ → Bool
digits_then_mark [] [] = false
digits_then_mark [] (b ∷ s) = is_mark b
digits_then_mark (d ∷ ds) [] = false
digits_then_mark (d ∷ ds) (b ∷ s) = eqb b d && digits_then_mark ds s

-- behind the mark of block k: i stands between two marks when block i is put back, and is met before the placeholder i
unfoldable pub taken_for_placeholder : ℕ → ℕ → List ℕ → List ℕ → Bool
taken_for_placeholder i k ks s = ltb i k && (digits_then_mark (decimal i) s && leb i (first ks))

unfoldable pub lost_at : ℕ → List ℕ → List ℕ → Bool
lost_at i ks [] = false
lost_at i ks (b ∷ s) = cond (is_mark b) (taken_for_placeholder i (first ks) (rest_numbers ks) s || lost_at i (rest_numbers ks) s) (lost_at i ks s)

unfoldable pub lost_below : ℕ → List ℕ → List ℕ → Bool
lost_below zero ks s = false
lost_below (suc n) ks s = lost_below n ks s || lost_at n ks s

unfoldable pub nested_below : (ℕ → List ℕ) → ℕ → Bool
nested_below block zero = false
nested_below block (suc n) = nested_below block n || has_mark (block n)

pub marked-none : (s : List ℕ) → has_mark s ≡ false → TextMarkFree s
unfolding TextMarkFree
marked-none [] e = tt
marked-none (b ∷ s) e = let both = or-neither (is_mark b) (has_mark s) e in (not-text-mark b both.0, marked-none s both.1)

pub none_below : (block : ℕ → List ℕ) (n : ℕ) → nested_below block n ≡ false → (k : ℕ) → k < n → has_mark (block k) ≡ false
unfolding nested_below
none_below block zero e k h = absurd (not-suc-le-zero h)
none_below block (suc n) e k h = go (eqb k n) refl (none_below block n parts.0 k)
  where
    parts : (nested_below block n ≡ false) × (has_mark (block n) ≡ false)
    parts = or-neither (nested_below block n) (has_mark (block n)) e

    go : (t : Bool) → eqb k n ≡ t → (k < n → has_mark (block k) ≡ false) → has_mark (block k) ≡ false
    go true q more = rw (eqb-true k n q) parts.1
    go false q more = let other = eqb-false k n q in more (omega arith)

pub free-below : (block : ℕ → List ℕ) (n : ℕ) → nested_below block n ≡ false → (k : ℕ) → k < n → TextMarkFree (block k)
free-below block n e k h = marked-none (block k) (none_below block n e k h)
