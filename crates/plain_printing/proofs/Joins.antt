-- Two plain formulas joined by ` + `: document 02's A10, of calls with display on, tables of no records and one tall field, whatever buffers are lent.
--     joined          two texts joined
--     plain-join      the join of plain formulas is plain, if it is not too long
--     calls-join      where a call on a join and calls on its parts are accepted, the join's output is the outputs of the parts, joined
--     first-accepted, second-accepted    where the join is accepted, so is each part, in buffers that suffice
use Rattle.std.specs.Prelude.{◌≡◌, refl, Bool, true, List, ◌++◌, ℕ, ◌+◌, ◌≤◌, max, length, take}
use Rattle.std.proofs.Common.{sym, ap, ap₂, ◌∙◌, append_assoc, arith, length-append}
use Rattle.spec.specs.Symbols.{bytes}
use Rattle.spec.specs.Result.{Result, passed}
use Rattle.spec.specs.Finish.{frac_bit}
use Rattle.spec.specs.Pipeline.{most_formula, least_work, Call}
use Rattle.spec.specs.Grammar.{Sum, product, plus, minus, proper, proper_product, text, product_text, sum_latex, product_latex, latex, height, Plain}
use Rattle.spec.specs.Laws.Booleans.{and_left, and_right, and_both}
use Rattle.spec.specs.Laws.Calls.{converted-admitted, call-converted}
use Rattle.plain_printing.specs.Calls.{NoRecords, latex_of, WithinLimits}
use Rattle.plain_printing.proofs.Calls.{call-prints, call-within, call-accepts}
use Rattle.plain_printing.specs.Joins.{joined}

abbrev join_sums : Sum → Sum → Sum
join_sums (product p) s = plus p s
join_sums (plus p r) s = plus p (join_sums r s)
join_sums (minus p r) s = minus p (join_sums r s)

append-join : (a r s : List ℕ) {w : List ℕ} → w ≡ joined r s → a ++ w ≡ joined (a ++ r) s
append-join a r s e = ap (λ w. a ++ w) e ∙ sym (append_assoc a (r ++ bytes " + ") s) ∙ ap (λ w. w ++ s) (sym (append_assoc a r (bytes " + ")))

text-join : (r s : Sum) → text (join_sums r s) ≡ joined (text r) (text s)
unfolding text
text-join (product p) s = refl
text-join (plus p r) s = append-join (product_text p ++ bytes " + ") (text r) (text s) (text-join r s)
text-join (minus p r) s = append-join (product_text p ++ bytes " - ") (text r) (text s) (text-join r s)

sum-latex-join : (b : Bool) (r s : Sum) → sum_latex b (join_sums r s) ≡ joined (sum_latex b r) (sum_latex b s)
unfolding sum_latex
sum-latex-join b (product p) s = refl
sum-latex-join b (plus p r) s = append-join (product_latex b p ++ bytes " + ") (sum_latex b r) (sum_latex b s) (sum-latex-join b r s)
sum-latex-join b (minus p r) s = append-join (product_latex b p ++ bytes " - ") (sum_latex b r) (sum_latex b s) (sum-latex-join b r s)

latex-join : (field : ℕ) (r s : Sum) → latex field (join_sums r s) ≡ joined (latex field r) (latex field s)
unfolding latex
latex-join field r s = sum-latex-join (frac_bit field) r s

proper-join : (r s : Sum) → proper r ≡ true → proper s ≡ true → proper (join_sums r s) ≡ true
proper-join (product p) s h k = and_both h k
proper-join (plus p r) s h k = and_both (and_left (proper_product p) (proper r) h) (proper-join r s (and_right (proper_product p) (proper r) h) k)
proper-join (minus p r) s h k = and_both (and_left (proper_product p) (proper r) h) (proper-join r s (and_right (proper_product p) (proper r) h) k)

height-join : (r s : Sum) → height (join_sums r s) ≡ max (height r) (height s)
unfolding height
height-join (product p) s = refl
height-join (plus p r) s = let later = height-join r s in omega arith
height-join (minus p r) s = let later = height-join r s in omega arith

length-join : (s t : List ℕ) → length (joined s t) ≡ length s + 3 + length t
length-join s t = omega (arith, length-append (s ++ bytes " + ") t, length-append s (bytes " + "))

pub plain-join : {f g : List ℕ} → Plain f → Plain g → length (joined f g) ≤ most_formula → Plain (joined f g)
plain-join p q short =
    record { sum = join_sums p.sum q.sum; is-proper = proper-join p.sum q.sum p.is-proper q.is-proper; reads = text-join p.sum q.sum ∙ ap₂ joined p.reads q.reads; short = short }

-- ---- calls
module _ {f g : List ℕ} (p : Plain f) (q : Plain g) {table : List ℕ} (empty : NoRecords table) {field : ℕ} {work output work' output' : List ℕ} {k : ℕ}
    (c : Call (joined f g) table true field work output (passed k) work' output') where
  -- an accepted formula is not too long
  whole : Plain (joined f g)
  whole = plain-join p q (converted-admitted (joined f g) table true field work output (call-converted c)).short

  whole-latex : latex_of field whole ≡ joined (latex_of field p) (latex_of field q)
  unfolding whole plain-join
  whole-latex = latex-join field p.sum q.sum

  pub calls-join : {table₁ table₂ : List ℕ} → NoRecords table₁ → NoRecords table₂
      → {work₁ output₁ work₁' output₁' work₂ output₂ work₂' output₂' : List ℕ} {n m : ℕ}
      → Call f table₁ true field work₁ output₁ (passed n) work₁' output₁'
      → Call g table₂ true field work₂ output₂ (passed m) work₂' output₂'
      → take k output' ≡ joined (take n output₁') (take m output₂')
  calls-join empty₁ empty₂ a b = call-prints whole table empty c ∙ whole-latex ∙ sym (ap₂ joined (call-prints p _ empty₁ a) (call-prints q _ empty₂ b))

  -- a part is no higher, and its LaTeX no longer, than the whole
  within : {h : List ℕ} (part : Plain h) → height part.sum ≤ height whole.sum → length (latex_of field part) ≤ length (latex_of field whole) → {work₁ output₁ : List ℕ} → least_work ≤ length work₁ → length (latex_of field part) ≤ length output₁
      → WithinLimits field part work₁ output₁
  within part low short wide long =
      let w = call-within whole table empty c in
      let shallow = w.shallow in
      let latex-short = w.latex-short in
      record { work-wide = wide; field-small = w.field-small; shallow = omega arith; latex-short = omega arith; output-long = long }

  lengths : length (latex_of field whole) ≡ length (latex_of field p) + 3 + length (latex_of field q)
  lengths = ap length whole-latex ∙ length-join (latex_of field p) (latex_of field q)

  heights : height whole.sum ≡ max (height p.sum) (height q.sum)
  unfolding whole plain-join
  heights = height-join p.sum q.sum

  module _ {table₁ : List ℕ} (empty₁ : NoRecords table₁) {work₁ output₁ work₁' output₁' : List ℕ} (wide : least_work ≤ length work₁) {answer : Result ℕ} where
    pub first-accepted : length (latex_of field p) ≤ length output₁ → Call f table₁ true field work₁ output₁ answer work₁' output₁' → answer ≡ passed (length (latex_of field p))
    first-accepted long a = call-accepts p table₁ empty₁ (within p (omega (arith, heights)) (omega (arith, lengths)) wide long) a

    pub second-accepted : length (latex_of field q) ≤ length output₁ → Call g table₁ true field work₁ output₁ answer work₁' output₁' → answer ≡ passed (length (latex_of field q))
    second-accepted long a = call-accepts q table₁ empty₁ (within q (omega (arith, heights)) (omega (arith, lengths)) wide long) a
