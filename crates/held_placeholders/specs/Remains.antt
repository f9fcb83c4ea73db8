-- A mark that no later round can take: it stands behind a backslash, and no number from i on stands between it and the next mark. Assumes nothing.
--     Remains       there is such a mark
--     remains-put   round i leaves it
use Rattle.std.specs.Prelude.{◌≡◌, Bool, ◌&&◌, ◌||◌, ℕ, zero, suc, ◌≤◌, ◌<◌, length, drop}
use Rattle.std.proofs.Math.Path.{refl, ap}
use Rattle.std.proofs.Common.{sym, ◌∙◌, inl, inr, not-suc-le-zero, arith, length-append, ne_eqb, eqb-true}
use Rattle.std.proofs.Math.Bool.{true, false}
use mathlib.Core.List.{List, [], ◌∷◌, ◌++◌, append_assoc}
use Rattle.std.proofs.Math.Dec.{eqb}
use Rattle.spec.specs.Symbols.{starts, text_mark}
use Rattle.spec.specs.Laws.Symbols.{starts-split, starts-unequal}
use Rattle.held_laws.specs.Marks.{backslash}
use Rattle.held_placeholders.specs.Numbered.{placeholder}
use Rattle.held_placeholders.specs.Decimal.{decimal, Digit, Digits, decimal-digits}
use Rattle.held_placeholders.specs.Replacing.{TextMarkFree, digit_not, number_mark, here-too, placeholder-long, put_block, put-none, put-not, put_other, put-mark, put-met, put-over, put-taken}
use Rattle.held_placeholders.specs.Broken.{marked}

pub record Remains (i : ℕ) (s : List ℕ) : Type 0 where
  pub left : List ℕ
  pub between : List ℕ
  pub right : List ℕ
  pub split : s ≡ left ++ (backslash ∷ (between ++ (text_mark ∷ right)))
  pub plain : TextMarkFree between
  pub later-absent : (t : ℕ) → i ≤ t → here-too t right ≡ false

marked-behind : (x s : List ℕ) → marked s ≡ true → marked (x ++ s) ≡ true
marked-behind [] s e = e
marked-behind (b ∷ x) s e = go (eqb b text_mark) (marked-behind x s e)
  where
    go : (t : Bool) → marked (x ++ s) ≡ true → t || marked (x ++ s) ≡ true
    go true h = refl
    go false h = h

pub remains-marked : {i : ℕ} {s : List ℕ} → Remains i s → marked s ≡ true
remains-marked r =
    ap marked r.split
    ∙ marked-behind r.left (backslash ∷ (r.between ++ (text_mark ∷ r.right))) (marked-behind r.between (text_mark ∷ r.right) refl)

pub remains-behind : {i : ℕ} {s : List ℕ} (x : List ℕ) → Remains i s → Remains i (x ++ s)
remains-behind x r =
    record {
      left = x ++ r.left;
      between = r.between;
      right = r.right;
      split = ap (λ l. x ++ l) r.split ∙ sym (append_assoc x r.left (backslash ∷ (r.between ++ (text_mark ∷ r.right))));
      plain = r.plain;
      later-absent = r.later-absent;
    }

-- ---- a placeholder has marks and digits alone
unfoldable pub Narrow : List ℕ → Type 0
Narrow [] = Unit {0}
Narrow (b ∷ s) = (b < 58) × Narrow s

narrow-digits : (ds s : List ℕ) → Digits ds → Narrow s → Narrow (ds ++ s)
unfolding Digits Narrow
narrow-digits [] s h g = g
narrow-digits (d ∷ ds) s h g = (let high = h.0.high in omega arith, narrow-digits ds s h.1 g)

pub narrow-placeholder : (k : ℕ) → Narrow (placeholder k)
unfolding placeholder Narrow
narrow-placeholder k = (omega arith, narrow-digits (decimal k) (text_mark ∷ []) (decimal-digits k) (omega arith, tt))

-- it stands in what is left of a backslash, or not there
starts-left : (p x s : List ℕ) → Narrow p → starts p (x ++ (backslash ∷ s)) ≡ starts p x
unfolding Narrow
starts-left [] x s h = refl
starts-left (q ∷ p) [] s h = starts-unequal q backslash p s (ne_eqb backslash q (λ e. let low = h.0 in omega arith))
starts-left (q ∷ p) (b ∷ x) s h = ap (λ t. t && eqb b q) (starts-left p x s h.1)

module _ (i : ℕ) (fresh : List ℕ) where
  abbrev puts : List ℕ → List ℕ
  puts = put_block i fresh

  abbrev Splits : List ℕ → Type 0
  Splits x = (s : List ℕ) → puts (x ++ (backslash ∷ s)) ≡ puts x ++ (backslash ∷ puts s)

  splits-none : Splits []
  splits-none s = put_other i fresh backslash s refl ∙ ap (λ l. l ++ (backslash ∷ puts s)) (sym (put-none i fresh))

  -- n bounds the length of the left part
  split-within : (n : ℕ) (x : List ℕ) → length x ≤ n → Splits x
  split-within zero [] h s = splits-none s
  split-within (suc n) [] h s = splits-none s
  split-within zero (b ∷ x) h s = absurd (not-suc-le-zero h)
  split-within (suc n) (b ∷ x) h s = go (starts (placeholder i) (b ∷ x)) refl (split-within n)
    where
      go : (t : Bool) → starts (placeholder i) (b ∷ x) ≡ t → ((x : List ℕ) → length x ≤ n → Splits x) → puts ((b ∷ x) ++ (backslash ∷ s)) ≡ puts (b ∷ x) ++ (backslash ∷ puts s)
      go true met more =
          let u = drop (length (placeholder i)) (b ∷ x) in
          let split = starts-split (placeholder i) (b ∷ x) met in
          let l = length-append (placeholder i) u in
          let long = ap length split in
          let some = placeholder-long i in
          ap (λ l. puts (l ++ (backslash ∷ s))) split
          ∙ ap puts (append_assoc (placeholder i) u (backslash ∷ s))
          ∙ put-met i fresh (u ++ (backslash ∷ s))
          ∙ ap (λ l. fresh ++ l) (more u (omega arith) s)
          ∙ sym (append_assoc fresh (puts u) (backslash ∷ puts s))
          ∙ ap (λ l. l ++ (backslash ∷ puts s)) (sym (ap puts split ∙ put-met i fresh u))
      go false other more =
          put-not i fresh b (x ++ (backslash ∷ s)) (starts-left (placeholder i) (b ∷ x) s (narrow-placeholder i) ∙ other)
          ∙ ap (λ l. b ∷ l) (more x (omega arith) s)
          ∙ ap (λ l. l ++ (backslash ∷ puts s)) (sym (put-not i fresh b x other))

  put-split : (x s : List ℕ) → puts (x ++ (backslash ∷ s)) ≡ puts x ++ (backslash ∷ puts s)
  put-split x s = split-within (length x) x (omega arith) s

  module _ (begins : fresh ≡ backslash ∷ drop 1 fresh) where
    -- what comes of a mark begins with a backslash or with the mark: with no digit
    put-digit : {d : ℕ} (ds s : List ℕ) → Digit d → starts (d ∷ ds ++ (text_mark ∷ [])) (puts (text_mark ∷ s)) ≡ false
    put-digit {d} ds s h = go (here-too i s) refl
      where
        go : (t : Bool) → here-too i s ≡ t → starts (d ∷ ds ++ (text_mark ∷ [])) (puts (text_mark ∷ s)) ≡ false
        go true met =
            ap (starts (d ∷ ds ++ (text_mark ∷ []))) (put-taken i fresh s met ∙ ap (λ l. l ++ puts (drop (length (number_mark i)) s)) begins)
            ∙ starts-unequal d backslash (ds ++ (text_mark ∷ [])) _ (digit_not backslash h (inr (omega arith)))
        go false other =
            ap (starts (d ∷ ds ++ (text_mark ∷ []))) (put-mark i fresh s other)
            ∙ starts-unequal d text_mark (ds ++ (text_mark ∷ [])) _ (digit_not text_mark h (inl (omega arith)))

    -- no number comes to stand before a mark
    still-dead : (ds : List ℕ) → Digits ds → (s : List ℕ) → starts (ds ++ (text_mark ∷ [])) s ≡ false → starts (ds ++ (text_mark ∷ [])) (puts s) ≡ false
    unfolding Digits
    still-dead [] h [] e = ap (starts (text_mark ∷ [])) (put-none i fresh)
    still-dead (d ∷ ds) h [] e = ap (starts ((d ∷ ds) ++ (text_mark ∷ []))) (put-none i fresh)
    still-dead [] h (b ∷ s) e = ap (starts (text_mark ∷ [])) (put_other i fresh b s e) ∙ e
    still-dead (d ∷ ds) h (b ∷ s) e = go (eqb b text_mark) refl (eqb b d) refl (still-dead ds h.1 s) e
      where
        go : (t : Bool) → eqb b text_mark ≡ t → (u : Bool) → eqb b d ≡ u
            → (starts (ds ++ (text_mark ∷ [])) s ≡ false → starts (ds ++ (text_mark ∷ [])) (puts s) ≡ false)
            → starts (ds ++ (text_mark ∷ [])) s && u ≡ false
            → starts ((d ∷ ds) ++ (text_mark ∷ [])) (puts (b ∷ s)) ≡ false
        go true q u p more e = ap (λ c. starts ((d ∷ ds) ++ (text_mark ∷ [])) (puts (c ∷ s))) (eqb-true b text_mark q) ∙ put-digit ds s h.0
        go false q true p more e = ap (starts ((d ∷ ds) ++ (text_mark ∷ []))) (put_other i fresh b s q) ∙ ap (λ t. t && eqb b d) (more (alone _ e))
          where
            alone : (t : Bool) → t && true ≡ false → t ≡ false
            alone true e = e
            alone false e = refl
        go false q false p more e = ap (starts ((d ∷ ds) ++ (text_mark ∷ []))) (put_other i fresh b s q) ∙ starts-unequal d b (ds ++ (text_mark ∷ [])) (puts s) p

    pub remains-put : {s : List ℕ} → Remains i s → Remains (suc i) (puts s)
    remains-put r =
        record {
          left = puts r.left;
          between = r.between;
          right = puts r.right;
          split =
              ap puts r.split
              ∙ put-split r.left (r.between ++ (text_mark ∷ r.right))
              ∙ ap (λ l. puts r.left ++ (backslash ∷ l))
              (put-over i fresh r.between (text_mark ∷ r.right) r.plain ∙ ap (λ l. r.between ++ l) (put-mark i fresh r.right (r.later-absent i (omega arith))));
          plain = r.plain;
          later-absent = λ t h. still-dead (decimal t) (decimal-digits t) r.right (r.later-absent t (omega arith));
        }
