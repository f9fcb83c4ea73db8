-- Laws of literal replacement, and of putting a block in the place of its placeholder. Assumes nothing.
--     starts-split     a text that starts with a pattern is the pattern and the rest
--     replace-other, replace-met    one step of `replace`
--     put i b          block b is put in the place of every placeholder i: the text is passed up to a mark with the number i behind it
use Rattle.std.specs.Prelude.{◌≡◌, Bool, ◌⊎◌, eqb, drop}
use Rattle.std.proofs.Math.Path.{refl, ap}
use Rattle.std.proofs.Common.{sym, ap₂, ◌∙◌, inl, ⊎_elim}
use Rattle.std.proofs.Math.Bool.{true, false}
use Rattle.std.proofs.lemmas.Bool.{false≢true}
use mathlib.Core.List.{List, [], ◌∷◌, ◌++◌, append_assoc}
use Prim.Native.Nat.{ℕ, zero, suc, pred, ◌<◌}
use native.Mathlib.Omega.{arith}
use Rattle.std.proofs.Math.ListN.{length}
use borrow.Author.Tests.{eq-eqb, ne_eqb, eqb-true}
use Rattle.spec.specs.Symbols.{starts, text_mark}
use Rattle.spec.specs.Sweep.{Rule, sweep, replacing, replace}
use Rattle.spec.specs.Laws.Symbols.{starts-self, starts-split, starts-unequal}
use Rattle.spec.specs.Laws.Booleans.{and_parts}
use Rattle.held_placeholders.specs.Numbered.{placeholder}
use Rattle.held_placeholders.specs.Decimal.{decimal, Digit, Digits, decimal-digits, decimal_injective}

-- ---- starts
-- the first symbol is another
-- ---- replacing a pattern that is not empty
module _ (p : ℕ) (q fresh : List ℕ) where
  abbrev rule : Rule
  rule = replacing (p ∷ q) fresh

  -- the rule doesn't look at the symbol before
  any-before : (s : List ℕ) (b c skip : ℕ) → sweep rule b skip s ≡ sweep rule c skip s
  unfolding sweep
  any-before [] b c skip = refl
  any-before (x ∷ s) b c zero = refl
  any-before (x ∷ s) b c (suc skip) = refl

  passed : (x s : List ℕ) (b : ℕ) → sweep rule b (length x) (x ++ s) ≡ sweep rule 0 0 s
  unfolding sweep
  passed [] s b = any-before s b 0 0
  passed (y ∷ x) s b = passed x s y

  pub replace-other : (b : ℕ) (s : List ℕ) → starts (p ∷ q) (b ∷ s) ≡ false → replace (p ∷ q) fresh (b ∷ s) ≡ b ∷ replace (p ∷ q) fresh s
  unfolding replace sweep
  replace-other b s e = rw e (ap (λ l. b ∷ l) (any-before s b 0 0))

  pub replace-met : (s : List ℕ) → replace (p ∷ q) fresh ((p ∷ q) ++ s) ≡ fresh ++ replace (p ∷ q) fresh s
  unfolding replace sweep
  replace-met s =
      let few : pred (suc (length q)) ≡ length q = omega arith in
      rw (starts-self q s, eq-eqb p p refl) (ap (λ l. fresh ++ l) (rw few (passed q s p)))

-- ---- digits and marks
unfoldable pub TextMarkFree : List ℕ → Type 0
TextMarkFree [] = Unit {0}
TextMarkFree (b ∷ s) = (eqb b text_mark ≡ false) × TextMarkFree s

pub digit_not : {d : ℕ} (b : ℕ) → Digit d → (b < 48) ⊎ (57 < b) → eqb b d ≡ false
digit_not {d} b h o = ne_eqb b d (λ e. let low = h.low in let high = h.high in ⊎_elim (λ l. omega arith) (λ l. omega arith) o)

pub digit-unmarked : {d : ℕ} → Digit d → eqb d text_mark ≡ false
digit-unmarked {d} h = ne_eqb d text_mark (λ e. let low = h.low in omega arith)

pub digits-unmarked : (ds : List ℕ) → Digits ds → TextMarkFree ds
unfolding Digits TextMarkFree
digits-unmarked [] h = tt
digits-unmarked (d ∷ ds) h = (digit-unmarked h.0, digits-unmarked ds h.1)

-- digits before a mark that are read as those of a number are its digits
pub same_digits : (ds es : List ℕ) → Digits ds → Digits es → (s : List ℕ) → starts (ds ++ (text_mark ∷ [])) (es ++ (text_mark ∷ s)) ≡ true → ds ≡ es
unfolding Digits
same_digits [] [] h g s e = refl
same_digits [] (x ∷ es) h g s e = absurd (false≢true (sym (digit-unmarked g.0) ∙ e))
same_digits (d ∷ ds) [] h g s e = absurd (false≢true (sym (starts-unequal d text_mark (ds ++ (text_mark ∷ [])) s (digit_not text_mark h.0 (inl (omega arith)))) ∙ e))
same_digits (d ∷ ds) (x ∷ es) h g s e =
    let both = and_parts (starts (ds ++ (text_mark ∷ [])) (es ++ (text_mark ∷ s))) (eqb x d) e in
    ap₂ (λ a l. a ∷ l) (sym (eqb-true x d both.1)) (same_digits ds es h.1 g.1 s both.0)

-- ---- putting a block in
-- what a placeholder asks of the text behind its first mark
abbrev pub number_mark : ℕ → List ℕ
number_mark i = decimal i ++ (text_mark ∷ [])

abbrev pub here-too : ℕ → List ℕ → Bool
here-too i s = starts (number_mark i) s

pub placeholder-long : (k : ℕ) → 0 < length (placeholder k)
unfolding placeholder
placeholder-long k = omega arith

module _ (i : ℕ) (fresh : List ℕ) where
  abbrev pub put_block : List ℕ → List ℕ
  put_block s = replace (placeholder i) fresh s

  pub put-none : put_block [] ≡ []
  unfolding replace sweep
  put-none = refl

  pub put-not : (b : ℕ) (s : List ℕ) → starts (placeholder i) (b ∷ s) ≡ false → put_block (b ∷ s) ≡ b ∷ put_block s
  unfolding placeholder
  put-not = replace-other text_mark (number_mark i) fresh

  pub put_other : (b : ℕ) (s : List ℕ) → eqb b text_mark ≡ false → put_block (b ∷ s) ≡ b ∷ put_block s
  unfolding placeholder
  put_other b s e = replace-other text_mark (number_mark i) fresh b s (starts-unequal text_mark b (number_mark i) s e)

  pub put-mark : (s : List ℕ) → here-too i s ≡ false → put_block (text_mark ∷ s) ≡ text_mark ∷ put_block s
  unfolding placeholder
  put-mark s e = replace-other text_mark (number_mark i) fresh text_mark s (rw e)

  pub put-met : (s : List ℕ) → put_block (placeholder i ++ s) ≡ fresh ++ put_block s
  unfolding placeholder
  put-met s = replace-met text_mark (number_mark i) fresh s

  -- a mark with the number behind it is taken
  pub put-taken : (s : List ℕ) → here-too i s ≡ true → put_block (text_mark ∷ s) ≡ fresh ++ put_block (drop (length (number_mark i)) s)
  unfolding placeholder
  put-taken s met = ap (λ l. put_block (text_mark ∷ l)) (starts-split (number_mark i) s met) ∙ put-met (drop (length (number_mark i)) s)

  pub put-over : (x s : List ℕ) → TextMarkFree x → put_block (x ++ s) ≡ x ++ put_block s
  unfolding TextMarkFree
  put-over [] s h = refl
  put-over (b ∷ x) s h = put_other b (x ++ s) h.0 ∙ ap (λ l. b ∷ l) (put-over x s h.1)

  -- another number's placeholder is passed up to its second mark
  pub put-block-past : (k : ℕ) (s : List ℕ) → (i ≡ k → ⊥) → put_block (placeholder k ++ s) ≡ text_mark ∷ decimal k ++ put_block (text_mark ∷ s)
  unfolding placeholder
  put-block-past k s other =
      let e : placeholder k ++ s ≡ text_mark ∷ (decimal k ++ (text_mark ∷ s)) = ap (λ l. text_mark ∷ l) (append_assoc (decimal k) (text_mark ∷ []) s) in
      ap put_block e
      ∙ put-mark (decimal k ++ (text_mark ∷ s)) (go (here-too i (decimal k ++ (text_mark ∷ s))) refl)
      ∙ ap (λ l. text_mark ∷ l) (put-over (decimal k) (text_mark ∷ s) (digits-unmarked (decimal k) (decimal-digits k)))
    where
      go : (t : Bool) → here-too i (decimal k ++ (text_mark ∷ s)) ≡ t → t ≡ false
      go true e = absurd (other (decimal_injective i k (same_digits (decimal i) (decimal k) (decimal-digits i) (decimal-digits k) s e)))
      go false e = refl
