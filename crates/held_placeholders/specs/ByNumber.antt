-- Blocks at their marks by number, and which blocks hold a mark. Assumes nothing.
--     order-fill       where no `\mathrm` block holds a mark, each kind in the order of its marks is the blocks by number
--     nested-concat    some block holds a mark: all blocks, one behind the other, do
--     marked-range     a block that holds a mark is a `\mathrm` block
use Rattle.std.specs.Prelude.{◌≡◌, refl, Bool, true, false, cond, ◌||◌, List, [], ◌∷◌, ◌++◌, ℕ, zero, suc, ◌+◌, ◌-◌, ◌≤◌, ◌<◌, eqb, length}
use Rattle.std.proofs.Common.{sym, ap, ◌∙◌, zero-add, arith}
use Rattle.std.proofs.lemmas.Bool.{false≢true}
use Rattle.std.proofs.Math.Bool.{or-false}
use Rattle.spec.specs.Symbols.{text_mark, roman_mark}
use Rattle.spec.specs.Held.{Held, filled}
use Rattle.spec.specs.Laws.Booleans.{or-neither}
use Rattle.held_laws.specs.Marks.{is_mark, has_mark, block_at, concat, not-both, not-text-mark, has-mark-append}
use Rattle.held_laws.specs.WellMade.{texts_of, Every, MarkFreeBlock, WellMade, block-append, block-front}
use Rattle.held_laws.specs.Enclosed.{by_order}
use Rattle.held_laws.specs.InFull.{returned, filled-returned, text-marks-left}
use Rattle.held_placeholders.specs.Fill.{first, rest_numbers, order, fill}
use Rattle.held_placeholders.specs.Losing.{nested_below}

-- ---- both kinds
returned-over : (block : ℕ → List ℕ) (k : ℕ) (x s : List ℕ) → has_mark x ≡ false → returned text_mark block k (x ++ s) ≡ x ++ returned text_mark block k s
unfolding returned
returned-over block k [] s e = refl
returned-over block k (b ∷ x) s e =
    let parts = or-neither (is_mark b) (has_mark x) e in
    rw (not-text-mark b parts.0) (ap (λ l. b ∷ l) (returned-over block k x s parts.1))

two-kinds :
    (block : ℕ → List ℕ) (texts : ℕ) → ((k : ℕ) → texts ≤ k → has_mark (block k) ≡ false) → (s : List ℕ) (a r : ℕ) → texts ≤ r
    → returned text_mark block a (returned roman_mark block r s) ≡ fill block (order a r s) s
unfolding returned order fill
two-kinds block texts free [] a r h = refl
two-kinds block texts free (b ∷ s) a r h =
    go (eqb b text_mark) refl (eqb b roman_mark) refl (two-kinds block texts free s (suc a) r h) (two-kinds block texts free s a (suc r) (omega arith)) (two-kinds block texts free s a r h)
  where
    go : (x : Bool) → eqb b text_mark ≡ x → (y : Bool) → eqb b roman_mark ≡ y
        → returned text_mark block (suc a) (returned roman_mark block r s) ≡ fill block (order (suc a) r s) s
        → returned text_mark block a (returned roman_mark block (suc r) s) ≡ fill block (order a (suc r) s) s
        → returned text_mark block a (returned roman_mark block r s) ≡ fill block (order a r s) s
        → (let ks = cond x (a ∷ order (suc a) r s) (cond y (r ∷ order a (suc r) s) (order a r s)) in
        returned text_mark block a (cond y (block r ++ returned roman_mark block (suc r) s) (b ∷ returned roman_mark block r s))
        ≡ cond (x || y) (block (first ks) ++ fill block (rest_numbers ks) s) (b ∷ fill block ks s))
    go true p true q one two same = not-both b p q
    go true p false q one two same = rw p (ap (λ l. block a ++ l) one)
    go false p true q one two same = returned-over block a (block r) (returned roman_mark block (suc r) s) (free r h) ∙ ap (λ l. block r ++ l) two
    go false p false q one two same = rw p (ap (λ l. b ∷ l) same)

unmarked-at : (bs : List (List ℕ)) → has_mark (concat bs) ≡ false → (k : ℕ) → has_mark (block_at bs k) ≡ false
unfolding concat block_at
unmarked-at [] e k = refl
unmarked-at (b ∷ bs) e zero = (or-neither (has_mark b) (has_mark (concat bs)) (sym (has-mark-append b (concat bs)) ∙ e)).0
unmarked-at (b ∷ bs) e (suc k) = unmarked-at bs (or-neither (has_mark b) (has_mark (concat bs)) (sym (has-mark-append b (concat bs)) ∙ e)).1 k

module _ {h : Held} (made : WellMade h) where
  pub order-fill :
      has_mark (concat h.romans) ≡ false
      → by_order (texts_of h) h.romans h.text ≡ fill (block_at (texts_of h ++ h.romans)) (order 0 (length (texts_of h)) h.text) h.text
  order-fill none =
      let bs = texts_of h ++ h.romans in
      let few = made.roman-marks in
      let all = text-marks-left made in
      let romans = filled-returned roman_mark (block_at bs) h.text h.romans (length (texts_of h)) (omega arith) (λ i l. block-append (texts_of h) h.romans i) in
      filled-returned text_mark (block_at bs) (filled roman_mark h.romans h.text) (texts_of h) 0 (omega arith)
      (λ i l. ap (block_at bs) (zero-add i) ∙ block-front (texts_of h) h.romans i l)
      ∙ ap (returned text_mark (block_at bs) 0) romans
      ∙ two-kinds (block_at bs) (length (texts_of h)) free h.text 0 (length (texts_of h)) (omega arith)
    where
      free : (k : ℕ) → length (texts_of h) ≤ k → has_mark (block_at (texts_of h ++ h.romans) k) ≡ false
      free k l =
          let e : length (texts_of h) + (k - length (texts_of h)) ≡ k = omega arith in
          ap (λ n. has_mark (block_at (texts_of h ++ h.romans) n)) (sym e)
          ∙ ap has_mark (block-append (texts_of h) h.romans (k - length (texts_of h)))
          ∙ unmarked-at h.romans none (k - length (texts_of h))

-- ---- some block holds a mark
nested-shift : (b : List ℕ) (bs : List (List ℕ)) (n : ℕ) → nested_below (block_at (b ∷ bs)) (suc n) ≡ has_mark b || nested_below (block_at bs) n
unfolding nested_below block_at
nested-shift b bs zero = sym (or-false (has_mark b))
nested-shift b bs (suc n) = ap (λ t. t || has_mark (block_at bs n)) (nested-shift b bs n) ∙ go (has_mark b)
  where
    go : (x : Bool) → x || nested_below (block_at bs) n || has_mark (block_at bs n) ≡ x || (nested_below (block_at bs) n || has_mark (block_at bs n))
    go true = refl
    go false = refl

pub nested-concat : (bs : List (List ℕ)) → nested_below (block_at bs) (length bs) ≡ has_mark (concat bs)
unfolding concat nested_below
nested-concat [] = refl
nested-concat (b ∷ bs) = nested-shift b bs (length bs) ∙ ap (λ t. has_mark b || t) (nested-concat bs) ∙ sym (has-mark-append b (concat bs))

-- a block with a mark is one of the second list, where those of the first have none
marked-within : (bs : List (List ℕ)) (k : ℕ) → has_mark (block_at bs k) ≡ true → k < length bs
unfolding block_at
marked-within [] k e = absurd (false≢true e)
marked-within (b ∷ bs) zero e = omega arith
marked-within (b ∷ bs) (suc k) e = let l = marked-within bs k e in omega arith

pub marked-range : (bs cs : List (List ℕ)) → Every MarkFreeBlock bs → (k : ℕ) → has_mark (block_at (bs ++ cs) k) ≡ true → (length bs ≤ k) × (k < length bs + length cs)
unfolding block_at Every
marked-range [] cs h k e = let l = marked-within cs k e in (omega arith, omega arith)
marked-range (b ∷ bs) cs h zero e = absurd (false≢true (sym h.0.mark-free ∙ e))
marked-range (b ∷ bs) cs h (suc k) e = let l = marked-range bs cs h.1 k e in let low = l.0 in let high = l.1 in (omega arith, omega arith)
