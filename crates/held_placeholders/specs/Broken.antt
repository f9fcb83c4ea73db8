-- A text is broken where a symbol other than mark and digit has an odd number of marks before it. No replacement of a placeholder mends that, so a
-- mark remains in the end. Assumes nothing.
--     odd          the number of marks is odd
--     broken       the text is broken, with an even or an odd number of marks before it
--     broken-put   it stays so when a block is put in that has whole placeholders
use Rattle.std.specs.Prelude.{◌≡◌, Bool, not, ◌||◌, eqb}
use Rattle.std.proofs.Math.Path.{refl, ap}
use Rattle.std.proofs.Common.{sym, ◌∙◌, true≢false, not-suc-le-zero, arith, le-leb}
use Rattle.std.proofs.Math.Bool.{true, false, cond}
use Rattle.std.proofs.lemmas.Bool.{false≢true}
use mathlib.Core.List.{List, [], ◌∷◌, ◌++◌, append_assoc}
use Prim.Native.Nat.{ℕ, zero, suc, ◌≤◌}
use Rattle.std.proofs.Math.ListN.{length, drop, length-append}
use Rattle.spec.specs.Symbols.{starts, digit, any, text_mark}
use Rattle.spec.specs.Laws.Symbols.{starts-split}
use Rattle.held_placeholders.specs.Numbered.{placeholder}
use Rattle.held_placeholders.specs.Decimal.{decimal, Digits, decimal-digits}
use Rattle.held_placeholders.specs.Replacing.{TextMarkFree, digit-unmarked, digits-unmarked, placeholder-long, put_block, put-not, put-met}

-- a mark is left: number 6
abbrev pub marked : List ℕ → Bool
marked s = any (λ x. eqb x text_mark) s

unfoldable pub odd : List ℕ → Bool
odd [] = false
odd (b ∷ s) = cond (eqb b text_mark) (not (odd s)) (odd s)

unfoldable pub broken : Bool → List ℕ → Bool
broken o [] = false
broken o (b ∷ s) = cond (eqb b text_mark) (broken (not o) s) (cond (digit b) (broken o s) (o || broken o s))

-- ---- odd
abbrev pub flip : Bool → Bool → Bool
flip o true = not o
flip o false = o

flip-not : (o p : Bool) → flip o (not p) ≡ flip (not o) p
flip-not true true = refl
flip-not true false = refl
flip-not false true = refl
flip-not false false = refl

pub odd-append : (x s : List ℕ) → odd (x ++ s) ≡ flip (odd s) (odd x)
unfolding odd
odd-append [] s = refl
odd-append (b ∷ x) s = go (eqb b text_mark) (odd s) (odd x) (odd-append x s)
  where
    go : (m o p : Bool) → odd (x ++ s) ≡ flip o p → cond m (not (odd (x ++ s))) (odd (x ++ s)) ≡ flip o (cond m (not p) p)
    go true true true e = ap not e
    go true true false e = ap not e
    go true false true e = ap not e
    go true false false e = ap not e
    go false o p e = e

pub unmarked-even : (x : List ℕ) → TextMarkFree x → odd x ≡ false
unfolding odd TextMarkFree
unmarked-even [] h = refl
unmarked-even (b ∷ x) h = rw h.0 (unmarked-even x h.1)

pub placeholder-even : (k : ℕ) → odd (placeholder k) ≡ false
unfolding placeholder odd
placeholder-even k =
    ap not (odd-append (decimal k) (text_mark ∷ []) ∙ ap (flip true) (unmarked-even (decimal k) (digits-unmarked (decimal k) (decimal-digits k))))

-- ---- broken
-- behind another text
pub broken-behind : (x s : List ℕ) (o : Bool) → broken (flip o (odd x)) s ≡ true → broken o (x ++ s) ≡ true
unfolding odd broken
broken-behind [] s o e = e
broken-behind (b ∷ x) s o e = go (eqb b text_mark) (digit b) o (broken-behind x s) e
  where
    go : (m d o : Bool) → ((o : Bool) → broken (flip o (odd x)) s ≡ true → broken o (x ++ s) ≡ true)
        → broken (flip o (cond m (not (odd x)) (odd x))) s ≡ true
        → cond m (broken (not o) (x ++ s)) (cond d (broken o (x ++ s)) (o || broken o (x ++ s))) ≡ true
    go true d o more e = more (not o) (rw (flip-not o (odd x)) at e)
    go false true o more e = more o e
    go false false true more e = refl
    go false false false more e = more false e

pub broken-digits : (ds s : List ℕ) (o : Bool) → Digits ds → broken o (ds ++ s) ≡ broken o s
unfolding broken Digits
broken-digits [] s o h = refl
broken-digits (d ∷ ds) s o h = rw (digit-unmarked h.0, le-leb 48 d h.0.low, le-leb d 57 h.0.high) (broken-digits ds s o h.1)

broken-placeholder : (k : ℕ) (s : List ℕ) (o : Bool) → broken o (placeholder k ++ s) ≡ broken o s
unfolding placeholder broken
broken-placeholder k s true = ap (broken false) (append_assoc (decimal k) (text_mark ∷ []) s) ∙ broken-digits (decimal k) (text_mark ∷ s) false (decimal-digits k)
broken-placeholder k s false = ap (broken true) (append_assoc (decimal k) (text_mark ∷ []) s) ∙ broken-digits (decimal k) (text_mark ∷ s) true (decimal-digits k)

module _ (i : ℕ) (fresh : List ℕ) (even : odd fresh ≡ false) where
  -- a symbol is copied
  copied : (b : ℕ) (s u : List ℕ) → ((o : Bool) → broken o s ≡ true → broken o u ≡ true) → (o : Bool) → broken o (b ∷ s) ≡ true → broken o (b ∷ u) ≡ true
  unfolding broken
  copied b s u more o e = go (eqb b text_mark) (digit b) o e
    where
      go : (m d o : Bool) → cond m (broken (not o) s) (cond d (broken o s) (o || broken o s)) ≡ true
          → cond m (broken (not o) u) (cond d (broken o u) (o || broken o u)) ≡ true
      go true d o e = more (not o) e
      go false true o e = more o e
      go false false true e = refl
      go false false false e = more false e

  -- n bounds the text's length
  broken-within : (n : ℕ) (s : List ℕ) → length s ≤ n → (o : Bool) → broken o s ≡ true → broken o (put_block i fresh s) ≡ true
  unfolding broken
  broken-within zero [] h o e = absurd (false≢true e)
  broken-within (suc n) [] h o e = absurd (false≢true e)
  broken-within zero (b ∷ s) h o e = absurd (not-suc-le-zero h)
  broken-within (suc n) (b ∷ s) h o e = go (starts (placeholder i) (b ∷ s)) refl (broken-within n)
    where
      go : (t : Bool) → starts (placeholder i) (b ∷ s) ≡ t
          → ((u : List ℕ) → length u ≤ n → (o : Bool) → broken o u ≡ true → broken o (put_block i fresh u) ≡ true)
          → broken o (put_block i fresh (b ∷ s)) ≡ true
      go true met more =
          let u = drop (length (placeholder i)) (b ∷ s) in
          let split = starts-split (placeholder i) (b ∷ s) met in
          let l = length-append (placeholder i) u in
          let long = ap length split in
          let some = placeholder-long i in
          let e' = more u (omega arith) o (sym (broken-placeholder i u o) ∙ ap (broken o) (sym split) ∙ e) in
          ap (λ l. broken o (put_block i fresh l)) split
          ∙ ap (broken o) (put-met i fresh u)
          ∙ broken-behind fresh (put_block i fresh u) o (rw even e')
      go false other more = ap (broken o) (put-not i fresh b s other) ∙ copied b s (put_block i fresh s) (more s (omega arith)) o e

  pub broken-put : (s : List ℕ) (o : Bool) → broken o s ≡ true → broken o (put_block i fresh s) ≡ true
  broken-put s = broken-within (length s) s (omega arith)

-- a broken text has a mark
unmarked-whole : (s : List ℕ) → marked s ≡ false → broken false s ≡ false
unfolding broken
unmarked-whole [] e = refl
unmarked-whole (b ∷ s) e = go (eqb b text_mark) (digit b) (unmarked-whole s) e
  where
    go : (m d : Bool) → (marked s ≡ false → broken false s ≡ false) → m || marked s ≡ false
        → cond m (broken true s) (cond d (broken false s) (broken false s)) ≡ false
    go true d more e = absurd (true≢false e)
    go false true more e = more e
    go false false more e = more e

pub broken-marked : (s : List ℕ) → broken false s ≡ true → marked s ≡ true
broken-marked s e = go (marked s) refl
  where
    go : (t : Bool) → marked s ≡ t → t ≡ true
    go true q = refl
    go false q = absurd (false≢true (sym (unmarked-whole s q) ∙ e))
