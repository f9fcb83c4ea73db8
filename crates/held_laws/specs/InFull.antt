-- Held blocks in full: `\mathrm` blocks go back first, then `\text` blocks, each kind in the order of its marks. Assumes nothing.
--     returned          block k for the first mark of a kind, block k + 1 for the next, ..
--     filled-returned   that is what `filled` gives of a list of blocks
--     in-full-order     so every block comes to its own mark
--     in-full-length    the length with held blocks in full, by counts alone: every block once
--     in-full-free      no mark is left
use Rattle.std.specs.Prelude.{◌≡◌, refl, Bool, true, false, cond, List, [], ◌∷◌, ◌++◌, ℕ, suc, ◌+◌, ◌≤◌, ◌<◌, eqb, length}
use Rattle.std.proofs.Common.{sym, ap₂, ◌∙◌, add-zero, add-suc, suc-add, arith, length-append, eqb-true}
use Rattle.std.proofs.Math.Path.{ap}
use Rattle.spec.specs.Symbols.{text_mark, roman_mark}
use Rattle.spec.specs.Held.{Held, filled, in_none, enclosed, completed, in_full}
use Rattle.spec.specs.Laws.Held.{filled_none}
use Rattle.held_laws.specs.Marks.{has_mark, count, block_at, concat}
use Rattle.held_laws.specs.WellMade.{Every, Enclosing, texts_of, WellMade, count-append, unmarked-count, count-unmarked, concat-mark-free}
use Rattle.held_laws.specs.Enclosed.{by_order, own-marks}

unfoldable pub returned : ℕ → (ℕ → List ℕ) → ℕ → List ℕ → List ℕ
returned mark block k [] = []
returned mark block k (b ∷ s) = cond (eqb b mark) (block k ++ returned mark block (suc k) s) (b ∷ returned mark block k s)

-- ---- by list and by number
pub filled-returned :
    (mark : ℕ) (block : ℕ → List ℕ) (s : List ℕ) (bs : List (List ℕ)) (k : ℕ) → count mark s ≤ length bs → ((i : ℕ) → i < length bs → block (k + i) ≡ block_at bs i)
    → filled mark bs s ≡ returned mark block k s
unfolding filled returned count block_at
filled-returned mark block [] bs k h same = refl
filled-returned mark block (x ∷ s) [] k h same = go (eqb x mark) h (filled-returned mark block s [] k)
  where
    go : (t : Bool) → cond t (suc (count mark s)) (count mark s) ≤ 0
        → (count mark s ≤ 0 → ((i : ℕ) → i < 0 → block (k + i) ≡ block_at [] i) → filled mark [] s ≡ returned mark block k s)
        → x ∷ s ≡ cond t (block k ++ returned mark block (suc k) s) (x ∷ returned mark block k s)
    go true h more = absurd (omega arith)
    go false h more = ap (λ l. x ∷ l) (sym (filled_none mark s) ∙ more h same)
filled-returned mark block (x ∷ s) (b ∷ bs) k h same = go (eqb x mark) h (filled-returned mark block s bs (suc k)) (filled-returned mark block s (b ∷ bs) k)
  where
    go : (t : Bool) → cond t (suc (count mark s)) (count mark s) ≤ suc (length bs)
        → (count mark s ≤ length bs → ((i : ℕ) → i < length bs → block (suc k + i) ≡ block_at bs i) → filled mark bs s ≡ returned mark block (suc k) s)
        → (count mark s ≤ suc (length bs) → ((i : ℕ) → i < suc (length bs) → block (k + i) ≡ block_at (b ∷ bs) i) → filled mark (b ∷ bs) s ≡ returned mark block k s)
        → elim t as (λ _. List ℕ) [ true ↦ b ++ filled mark bs s | false ↦ x ∷ filled mark (b ∷ bs) s ]
        ≡ cond t (block k ++ returned mark block (suc k) s) (x ∷ returned mark block k s)
    go true h one other =
        ap₂ (λ x y. x ++ y) (sym (same 0 (omega arith)) ∙ ap block (add-zero k)) (one (omega arith) (λ i l. ap block (suc-add k i ∙ sym (add-suc k i)) ∙ same (suc i) (omega arith)))
    go false h one other = ap (λ l. x ∷ l) (other h same)

-- ---- counts
-- each mark gives way to a block
filled-count : (c mark : ℕ) → (eqb mark c ≡ false) → (s : List ℕ) (bs : List (List ℕ)) → count mark s ≡ length bs → count c (filled mark bs s) ≡ count c s + count c (concat bs)
unfolding filled count concat
filled-count c mark other [] [] h = refl
filled-count c mark other [] (b ∷ bs) h = absurd (omega arith)
filled-count c mark other (x ∷ s) [] h = sym (add-zero (count c (x ∷ s)))
filled-count c mark other (x ∷ s) (b ∷ bs) h = go (eqb x mark) refl h (filled-count c mark other s bs) (filled-count c mark other s (b ∷ bs))
  where
    go : (t : Bool) → eqb x mark ≡ t → cond t (suc (count mark s)) (count mark s) ≡ suc (length bs)
        → (count mark s ≡ length bs → count c (filled mark bs s) ≡ count c s + count c (concat bs))
        → (count mark s ≡ suc (length bs) → count c (filled mark (b ∷ bs) s) ≡ count c s + count c (b ++ concat bs))
        → count c (elim t as (λ _. List ℕ) [ true ↦ b ++ filled mark bs s | false ↦ x ∷ filled mark (b ∷ bs) s ]) ≡ cond (eqb x c) (suc (count c s)) (count c s) + count c (b ++ concat bs)
    go true p h one more =
        let e : eqb x c ≡ false = ap (λ y. eqb y c) (eqb-true x mark p) ∙ other in
        let here = one (omega arith) in
        let x = count-append c b (filled mark bs s) in
        let y = count-append c b (concat bs) in
        rw e (omega arith)
    go false p h one more = same (eqb x c) (more h)
      where
        same : (u : Bool) → count c (filled mark (b ∷ bs) s) ≡ count c s + count c (b ++ concat bs)
            → cond u (suc (count c (filled mark (b ∷ bs) s))) (count c (filled mark (b ∷ bs) s)) ≡ cond u (suc (count c s)) (count c s) + count c (b ++ concat bs)
        same true e = omega arith
        same false e = e

pub filled-length : (mark : ℕ) (s : List ℕ) (bs : List (List ℕ)) → count mark s ≡ length bs → length (filled mark bs s) + length bs ≡ length s + length (concat bs)
unfolding filled count concat
filled-length mark [] [] h = refl
filled-length mark [] (b ∷ bs) h = absurd (omega arith)
filled-length mark (x ∷ s) [] h = refl
filled-length mark (x ∷ s) (b ∷ bs) h = go (eqb x mark) h (filled-length mark s bs) (filled-length mark s (b ∷ bs))
  where
    go : (t : Bool) → cond t (suc (count mark s)) (count mark s) ≡ suc (length bs)
        → (count mark s ≡ length bs → length (filled mark bs s) + length bs ≡ length s + length (concat bs))
        → (count mark s ≡ suc (length bs) → length (filled mark (b ∷ bs) s) + suc (length bs) ≡ length s + length (b ++ concat bs))
        → length {A = ℕ} (elim t as (λ _. List ℕ) [ true ↦ b ++ filled mark bs s | false ↦ x ∷ filled mark (b ∷ bs) s ]) + suc (length bs) ≡ suc (length s) + length (b ++ concat bs)
    go true h one more =
        let e = one (omega arith) in
        let l = length-append b (filled mark bs s) in
        let m = length-append b (concat bs) in
        omega arith
    go false h one more = let e = more h in omega arith

filled-own : (mark : ℕ) (s : List ℕ) (bs : List (List ℕ)) → count mark s ≡ length bs → count mark (filled mark bs s) ≡ count mark (concat bs)
unfolding filled count concat
filled-own mark [] [] h = refl
filled-own mark [] (b ∷ bs) h = absurd (omega arith)
filled-own mark (x ∷ s) [] h = h
filled-own mark (x ∷ s) (b ∷ bs) h = go (eqb x mark) refl h (filled-own mark s bs) (filled-own mark s (b ∷ bs))
  where
    go : (t : Bool) → eqb x mark ≡ t → cond t (suc (count mark s)) (count mark s) ≡ suc (length bs)
        → (count mark s ≡ length bs → count mark (filled mark bs s) ≡ count mark (concat bs))
        → (count mark s ≡ suc (length bs) → count mark (filled mark (b ∷ bs) s) ≡ count mark (b ++ concat bs))
        → count mark (elim t as (λ _. List ℕ) [ true ↦ b ++ filled mark bs s | false ↦ x ∷ filled mark (b ∷ bs) s ]) ≡ count mark (b ++ concat bs)
    go true e h one more =
        let here = one (omega arith) in
        let x = count-append mark b (filled mark bs s) in
        let y = count-append mark b (concat bs) in
        omega arith
    go false e h one more = rw e (more h)

no-romans-in : (bs : List (List ℕ)) → Every Enclosing bs → count roman_mark (concat bs) ≡ 0
unfolding Every concat count
no-romans-in [] all = refl
no-romans-in (b ∷ bs) all = let c = count-append roman_mark b (concat bs) in let here = all.0.no-roman in let rest = no-romans-in bs all.1 in omega arith

module _ {h : Held} (made : WellMade h) where
  pub in-full-order : in_full h ≡ by_order (texts_of h) h.romans h.text
  unfolding in_full
  in-full-order =
      ap (λ bs. filled roman_mark (completed 0 bs h.romans) (filled text_mark (enclosed in_none bs) h.text)) made.enclosers
      ∙ own-marks h.text 0 (texts_of h) h.romans made.texts made.roman-marks made.text-marks

  -- after the first kind has gone back, as many `\text` marks stand as there are `\text` blocks
  pub text-marks-left : count text_mark (filled roman_mark h.romans h.text) ≡ length (texts_of h)
  text-marks-left = filled-count text_mark roman_mark refl h.text h.romans made.roman-marks ∙ made.text-marks

  pub in-full-length :
      length (in_full h) + (length (texts_of h) + length h.romans) ≡ length h.text + (length (concat (texts_of h)) + length (concat h.romans))
  in-full-length =
      let x = filled-length roman_mark h.text h.romans made.roman-marks in
      let y = filled-length text_mark (filled roman_mark h.romans h.text) (texts_of h) text-marks-left in
      let z = ap length in-full-order in
      omega arith

  pub in-full-free : has_mark (in_full h) ≡ false
  in-full-free =
      let half = filled roman_mark h.romans h.text in
      let none = unmarked-count (concat (texts_of h)) (concat-mark-free (texts_of h) made.texts) in
      let a = filled-own text_mark half (texts_of h) text-marks-left in
      let b = filled-count roman_mark text_mark refl half (texts_of h) text-marks-left in
      let c = filled-own roman_mark h.text h.romans made.roman-marks in
      let d = no-romans-in h.romans made.romans in
      let e = none.1 in
      ap has_mark in-full-order ∙ count-unmarked (filled text_mark (texts_of h) half) (a ∙ none.0) (omega arith)
