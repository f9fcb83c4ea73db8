-- One round of the Rust's put-back: block i goes to its own place, or the text is broken. Assumes nothing.
--     Good              what a block is, as the Rust has it
--     put_back_up_to       what stands for block k when i blocks have been put back
--     round             what round i makes of a text in which the blocks below i stand and the others are placeholders
use Rattle.std.specs.Prelude.{◌≡◌, Bool, cond, ◌&&◌, ◌||◌, ℕ, suc, ◌<◌, length, drop}
use Rattle.std.proofs.Math.Path.{refl, sym, ap, subst}
use Rattle.std.proofs.Common.{◌∙◌, inl, inr}
use Rattle.std.proofs.Math.Bool.{true, false, and-false}
use mathlib.Core.List.{List, [], ◌∷◌, ◌++◌, append_assoc}
use native.Mathlib.Omega.{arith}
use Rattle.std.proofs.Math.Dec.{leb, ltb, eqb}
use borrow.Author.Tests.{eqb-true, eqb-false, ltb-true, ltb-false, lt-ltb, le-ltb, le-leb, lt-leb}
use Rattle.spec.specs.Symbols.{starts, text_mark}
use Rattle.spec.specs.Laws.Symbols.{starts-unequal}
use Rattle.held_placeholders.specs.Numbered.{placeholder}
use Rattle.held_placeholders.specs.Decimal.{decimal, Digits, decimal-digits}
use Rattle.held_laws.specs.Marks.{backslash, is_mark, not-text-mark}
use Rattle.held_placeholders.specs.Fill.{first, rest_numbers, fill, mark-small}
use Rattle.held_placeholders.specs.Replacing.{TextMarkFree, digit_not, number_mark, here-too, put_block, put-none, put_other, put-mark, put-met, put-over, put-block-past, put-taken}
use Rattle.held_placeholders.specs.Broken.{odd, broken, broken-behind, broken-digits, placeholder-even}
use Rattle.held_placeholders.specs.Losing.{digits_then_mark, taken_for_placeholder, lost_at}

-- a block begins with a backslash, and its marks are those of whole placeholders
pub record Good (block : List ℕ) : Type 0 where
  pub begins : block ≡ backslash ∷ drop 1 block
  pub even : odd block ≡ false

one-even : (b : ℕ) → is_mark b ≡ false → odd (b ∷ []) ≡ false
unfolding odd
one-even b e = rw (not-text-mark b e)

-- a round that loses nothing gives the next text, and one that loses a block breaks it
pub data RoundResult (lost : Bool) (out next : List ℕ) : Type 0 where
  whole : lost ≡ false → out ≡ next → RoundResult lost out next
  broke : lost ≡ true → broken false out ≡ true → RoundResult lost out next

-- a text before it that holds whole placeholders
round-behind : {l : Bool} {out next : List ℕ} (x : List ℕ) → odd x ≡ false → RoundResult l out next → RoundResult l (x ++ out) (x ++ next)
round-behind x e (whole l h) = whole l (ap (λ s. x ++ s) h)
round-behind {out = out} x e (broke l h) = broke l (broken-behind x out false (rw e h))

abbrev pub put_back_up_to : (ℕ → List ℕ) → ℕ → ℕ → List ℕ
put_back_up_to block i k = cond (ltb k i) (block k) (placeholder k)

module _ (block : ℕ → List ℕ) (good : (k : ℕ) → Good (block k)) (i : ℕ) where
  -- a number's digits stand before a placeholder that has not been replaced
  typed-here : (ds ks s : List ℕ) → Digits ds → starts (ds ++ (text_mark ∷ [])) (fill (put_back_up_to block i) ks s) ≡ digits_then_mark ds s && leb i (first ks)
  unfolding fill digits_then_mark Digits placeholder
  typed-here [] ks [] h = refl
  typed-here (d ∷ ds) ks [] h = refl
  typed-here [] ks (b ∷ s) h = go (is_mark b) refl (ltb (first ks) i) refl
    where
      go : (m : Bool) → is_mark b ≡ m → (t : Bool) → ltb (first ks) i ≡ t
          → starts (text_mark ∷ []) (cond m (cond t (block (first ks)) (placeholder (first ks)) ++ fill (put_back_up_to block i) (rest_numbers ks) s) (b ∷ fill (put_back_up_to block i) ks s)) ≡ m && leb i (first ks)
      go true e true q = rw ((good (first ks)).begins, lt-leb i (first ks) (ltb-true (first ks) i q))
      go true e false q = rw (le-leb i (first ks) (ltb-false (first ks) i q))
      go false e t q = not-text-mark b e
  typed-here (d ∷ ds) ks (b ∷ s) h = go (is_mark b) refl (ltb (first ks) i) refl (typed-here ds ks s h.1)
    where
      both-alike : (t x y z : Bool) → x ≡ y && z → x && t ≡ t && y && z
      both-alike true true y z e = e
      both-alike true false y z e = e
      both-alike false x y z e = and-false x

      go : (m : Bool) → is_mark b ≡ m → (t : Bool) → ltb (first ks) i ≡ t
          → starts (ds ++ (text_mark ∷ [])) (fill (put_back_up_to block i) ks s) ≡ digits_then_mark ds s && leb i (first ks)
          → starts ((d ∷ ds) ++ (text_mark ∷ [])) (cond m (cond t (block (first ks)) (placeholder (first ks)) ++ fill (put_back_up_to block i) (rest_numbers ks) s) (b ∷ fill (put_back_up_to block i) ks s))
          ≡ eqb b d && digits_then_mark ds s && leb i (first ks)
      go true e true q more =
          rw (digit_not b h.0 (inl (mark-small b e)), (good (first ks)).begins)
          (starts-unequal d backslash (ds ++ (text_mark ∷ [])) _ (digit_not backslash h.0 (inr (omega arith))))
      go true e false q more =
          rw (digit_not b h.0 (inl (mark-small b e)))
          (starts-unequal d text_mark (ds ++ (text_mark ∷ [])) _ (digit_not text_mark h.0 (inl (omega arith))))
      go false e t q more = both-alike (eqb b d) _ (digits_then_mark ds s) (leb i (first ks)) more

  -- at the mark of a block that stands, with a later number: P is the text behind it
  later-round :
      (k : ℕ) (P N : List ℕ) (l t : Bool) → i < k → here-too i P ≡ t → RoundResult l (put_block i (block i) P) N
      → RoundResult (t || l) (put_block i (block i) (placeholder k ++ P)) (placeholder k ++ N)
  unfolding placeholder broken
  later-round k P N l true h met r =
      broke refl
      (ap (broken false) (put-block-past i (block i) k P (λ e. omega arith))
      ∙ broken-digits (decimal k) _ true (decimal-digits k)
      ∙ ap (broken true) (put-taken i (block i) P met ∙ ap (λ s. s ++ put_block i (block i) (drop (length (number_mark i)) P)) (good i).begins))
  later-round k P N l false h other r =
      subst (λ s. RoundResult l s (placeholder k ++ N))
      (sym (put-block-past i (block i) k P (λ e. omega arith) ∙ ap (λ s. text_mark ∷ decimal k ++ s) (put-mark i (block i) P other) ∙ sym (ap (λ s. text_mark ∷ s) (append_assoc (decimal k) (text_mark ∷ []) (put_block i (block i) P)))))
      (round-behind (placeholder k) (placeholder-even k) r)

  module _ (free : (k : ℕ) → k < i → TextMarkFree (block k)) where
    -- at a mark: P and N are the texts behind it, before and after the round
    mark-round :
        (k : ℕ) (ks s P N : List ℕ) → here-too i P ≡ digits_then_mark (decimal i) s && leb i (first ks) → (l : Bool) → RoundResult l (put_block i (block i) P) N
        → RoundResult (taken_for_placeholder i k ks s || l) (put_block i (block i) (put_back_up_to block i k ++ P)) (put_back_up_to block (suc i) k ++ N)
    unfolding taken_for_placeholder
    mark-round k ks s P N e l r = go (ltb k i) refl (eqb k i) refl
      where
        go : (t : Bool) → ltb k i ≡ t → (u : Bool) → eqb k i ≡ u
            → RoundResult (taken_for_placeholder i k ks s || l) (put_block i (block i) (cond t (block k) (placeholder k) ++ P)) (put_back_up_to block (suc i) k ++ N)
        go true q u r' =
            let less = ltb-true k i q in
            rw (le-ltb i k (omega arith), lt-ltb k (suc i) (omega arith), put-over i (block i) (block k) P (free k less))
            (round-behind (block k) (good k).even r)
        go false q true p =
            let same : k ≡ i = eqb-true k i p in
            rw (same, le-ltb i i (omega arith), lt-ltb i (suc i) (omega arith), put-met i (block i) P)
            (round-behind (block i) (good i).even r)
        go false q false p =
            let no_less = ltb-false k i q in
            let other = eqb-false k i p in
            let more : i < k = omega arith in
            rw (lt-ltb i k more, le-ltb k (suc i) (omega arith))
            (later-round k P N l (digits_then_mark (decimal i) s && leb i (first ks)) more e r)

    pub round : (s ks : List ℕ) → RoundResult (lost_at i ks s) (put_block i (block i) (fill (put_back_up_to block i) ks s)) (fill (put_back_up_to block (suc i)) ks s)
    unfolding fill lost_at
    round [] ks = whole refl (put-none i (block i))
    round (b ∷ s) ks = go (is_mark b) refl (round s)
      where
        go : (m : Bool) → is_mark b ≡ m
            → ((ks : List ℕ) → RoundResult (lost_at i ks s) (put_block i (block i) (fill (put_back_up_to block i) ks s)) (fill (put_back_up_to block (suc i)) ks s))
            → RoundResult (cond m (taken_for_placeholder i (first ks) (rest_numbers ks) s || lost_at i (rest_numbers ks) s) (lost_at i ks s))
            (put_block i (block i) (cond m (put_back_up_to block i (first ks) ++ fill (put_back_up_to block i) (rest_numbers ks) s) (b ∷ fill (put_back_up_to block i) ks s)))
            (cond m (put_back_up_to block (suc i) (first ks) ++ fill (put_back_up_to block (suc i)) (rest_numbers ks) s) (b ∷ fill (put_back_up_to block (suc i)) ks s))
        go true e more = mark-round (first ks) (rest_numbers ks) s _ _ (typed-here (decimal i) (rest_numbers ks) s (decimal-digits i)) (lost_at i (rest_numbers ks) s) (more (rest_numbers ks))
        go false e more = rw (put_other i (block i) b (fill (put_back_up_to block i) ks s) (not-text-mark b e)) (round-behind (b ∷ []) (one-even b e) (more ks))
