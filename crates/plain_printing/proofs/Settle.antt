-- Rounds until nothing changes. That they stop only when every fraction is stacked follows from the round itself: no slash is counted.
--     settle-ends    where no number refuses, every fraction is stacked, and no more of them stand one within another than there were rounds
--     settle-does    and where no more do, no number refuses a text that is not overgrown
use Rattle.std.specs.Prelude.{◌≡◌, Bool, cond, List, ℕ, zero, suc, ◌+◌, ◌≤◌, ltb, length}
use Rattle.std.proofs.Math.Path.{refl}
use Rattle.std.proofs.Common.{sym, ap, ◌∙◌, zero-add, suc-add, arith, le-ltb}
use Rattle.std.proofs.Math.Bool.{true, false}
use Rattle.std.proofs.Math.Option.{Option, some}
use Rattle.spec.specs.Symbols.{same}
use Rattle.spec.specs.Result.{Result, passed, refused, most_symbols}
use Rattle.spec.specs.Fractions.{convert_regular_fractions, settle}
use Rattle.spec.specs.Laws.Result.{unpassed}
use Rattle.spec.specs.Laws.Names.{same-eq, same_refl}
use Rattle.plain_printing.specs.Tree.{Tree, height, braced_style, write}
use Rattle.plain_printing.proofs.Stacked.{from-height}
use Rattle.plain_printing.proofs.Round.{round-plain}
use Rattle.plain_printing.proofs.Growth.{rounds-grow}

some-injective : {s t : List ℕ} → ◌≡◌ {A = Option (List ℕ)} (some s) (some t) → s ≡ t
some-injective e = cc

module _ (t : Tree) where
  -- ---- a round that changes nothing is followed by none that does
  stays : (n j : ℕ) → write braced_style (suc n) t ≡ write braced_style n t → write braced_style (j + n) t ≡ write braced_style n t
  stays n zero e = rw (zero-add n)
  stays n (suc j) e =
      rw (suc-add j n) (some-injective (sym (round-plain (j + n) t) ∙ ap convert_regular_fractions (stays n j e) ∙ round-plain n t) ∙ e)

  settled : (n : ℕ) → same (write braced_style (suc n) t) (write braced_style n t) ≡ true → write braced_style n t ≡ write braced_style (height t) t
  settled n e = sym (stays n (height t) (same-eq _ _ e)) ∙ from-height braced_style (height t + n) (height t) t (omega arith) (omega arith)

  -- ---- what a round comes to: number 9 is not met
  last-round : (n : ℕ) → settle 0 (write braced_style n t) ≡ cond (same (write braced_style (suc n) t) (write braced_style n t)) (passed (write braced_style n t)) (refused 7)
  unfolding settle
  last-round n = rw (round-plain n t, settle)

  -- the text is the same; the next is too long; the rounds that are left
  abbrev going : ℕ → ℕ → Bool → Bool → Result (List ℕ)
  going k n true c = passed (write braced_style n t)
  going k n false true = refused 5
  going k n false false = settle k (write braced_style (suc n) t)

  next-round : (k n : ℕ) → settle (suc k) (write braced_style n t) ≡ going k n (same (write braced_style (suc n) t) (write braced_style n t)) (ltb most_symbols (length (write braced_style (suc n) t)))
  unfolding settle
  next-round k n = rw (round-plain n t, settle) (go (same (write braced_style (suc n) t) (write braced_style n t)) (ltb most_symbols (length (write braced_style (suc n) t))))
    where
      go : (b c : Bool)
          → (elim b as (λ b. Result (List ℕ)) [
            | true ↦ passed (write braced_style n t)
            | false ↦ elim c as (λ c. Result (List ℕ)) [ true ↦ refused 5 | false ↦ settle k (write braced_style (suc n) t) ]
          ])
          ≡ going k n b c
      go true c = refl
      go false true = refl
      go false false = refl

  -- ---- what the rounds come to, if no number refuses, and how many there are at least
  abbrev Ends : ℕ → List ℕ → Type 0
  Ends most x = (x ≡ write braced_style (height t) t) × (height t ≤ most)

  ends-here : (n most : ℕ) → n ≤ most → same (write braced_style (suc n) t) (write braced_style n t) ≡ true → Ends most (write braced_style n t)
  ends-here n most l h = let whole = settled n h in (whole, omega (arith, ap length whole, rounds-grow n t))

  pub settle-ends : (k n : ℕ) (x : List ℕ) → settle k (write braced_style n t) ≡ passed x → Ends (k + n) x
  settle-ends zero n x e = go (same (write braced_style (suc n) t) (write braced_style n t)) refl (sym (last-round n) ∙ e)
    where
      go : (b : Bool) → same (write braced_style (suc n) t) (write braced_style n t) ≡ b → cond b (passed (write braced_style n t)) (refused 7) ≡ passed x → Ends (0 + n) x
      go true h e = let here : write braced_style n t ≡ x = cc in rw here at (ends-here n (0 + n) (omega arith) h)
      go false h e = absurd (unpassed e)
  settle-ends (suc k) n x e =
      go (same (write braced_style (suc n) t) (write braced_style n t)) refl (ltb most_symbols (length (write braced_style (suc n) t))) (settle-ends k (suc n) x) (sym (next-round k n) ∙ e)
    where
      go : (b : Bool) → same (write braced_style (suc n) t) (write braced_style n t) ≡ b → (c : Bool) → (settle k (write braced_style (suc n) t) ≡ passed x → Ends (k + suc n) x)
          → going k n b c ≡ passed x
          → Ends (suc k + n) x
      go true h c later e = let here : write braced_style n t ≡ x = cc in rw here at (ends-here n (suc k + n) (omega arith) h)
      go false h true later e = absurd (unpassed e)
      go false h false later e = let p = later e in let l = p.1 in (p.0, omega arith)

  -- ---- enough rounds within number 5's limit come to an end
  module _ (short : (n : ℕ) → length (write braced_style n t) ≤ most_symbols) where
    pub settle-does : (k n : ℕ) → height t ≤ k + n → settle k (write braced_style n t) ≡ passed (write braced_style (height t) t)
    settle-does zero n h =
        let still : write braced_style (suc n) t ≡ write braced_style n t = from-height braced_style (suc n) n t (omega arith) (omega arith) in
        last-round n ∙ rw (still, same_refl (write braced_style n t)) (ap passed (from-height braced_style n (height t) t (omega arith) (omega arith)))
    settle-does (suc k) n h =
        next-round k n
        ∙ ap (going k n (same (write braced_style (suc n) t) (write braced_style n t))) (le-ltb most_symbols (length (write braced_style (suc n) t)) (short (suc n)))
        ∙ go (same (write braced_style (suc n) t) (write braced_style n t)) refl (settle-does k (suc n) (omega arith))
      where
        go : (b : Bool) → same (write braced_style (suc n) t) (write braced_style n t) ≡ b → settle k (write braced_style (suc n) t) ≡ passed (write braced_style (height t) t)
            → going k n b false ≡ passed (write braced_style (height t) t)
        go true e later = ap passed (settled n e)
        go false e later = later
