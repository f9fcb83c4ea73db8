-- What is held: the marks of a text and of its `\mathrm` blocks are as many as its blocks. Assumes nothing.
--     MarkFreeBlock, Enclosing   what a `\text` block and a `\mathrm` block are
--     texts_of                    the `\text` blocks without their enclosers
--     WellMade                   what holding out gives, and what rewriting between the marks keeps
use Rattle.std.specs.Prelude.{◌≡◌, refl, Bool, true, false, cond, ◌||◌, List, [], ◌∷◌, ◌++◌, ℕ, zero, suc, ◌+◌, ◌<◌, eqb, length, drop}
use Rattle.std.proofs.Common.{sym, ap, ap₂, ◌∙◌, append_assoc, not-suc-le-zero, suc-add, arith}
use Rattle.std.proofs.Math.Option.{Option}
use Rattle.spec.specs.Symbols.{text_mark, roman_mark}
use Rattle.spec.specs.Held.{TextBlock, Held, marks, enclosers_of, text_blocks}
use Rattle.spec.specs.Laws.Booleans.{or-neither}
use Rattle.held_laws.specs.Marks.{backslash, is_mark, has_mark, count, block_at, concat, has-mark-append}

unfoldable pub Every : (List ℕ → Type 0) → List (List ℕ) → Type 0
Every P [] = Unit {0}
Every P (b ∷ bs) = P b × Every P bs

pub record MarkFreeBlock (b : List ℕ) : Type 0 where
  pub begins : b ≡ backslash ∷ drop 1 b
  pub mark-free : has_mark b ≡ false

-- it may hold the marks of `\text` blocks
pub record Enclosing (b : List ℕ) : Type 0 where
  pub begins : b ≡ backslash ∷ drop 1 b
  pub no-roman : count roman_mark b ≡ 0

unfoldable pub symbols_of : List TextBlock → List (List ℕ)
symbols_of [] = []
symbols_of (b ∷ bs) = b.symbols ∷ symbols_of bs

abbrev pub texts_of : Held → List (List ℕ)
texts_of h = symbols_of h.texts

pub symbols-of : (es : List (Option ℕ)) (bs : List (List ℕ)) → symbols_of (text_blocks es bs) ≡ bs
unfolding symbols_of text_blocks
symbols-of es [] = refl
symbols-of [] (b ∷ bs) = ap (λ l. b ∷ l) (symbols-of [] bs)
symbols-of (e ∷ es) (b ∷ bs) = ap (λ l. b ∷ l) (symbols-of es bs)

pub record WellMade (h : Held) : Type 0 where
  pub texts : Every MarkFreeBlock (texts_of h)
  pub romans : Every Enclosing h.romans
  pub text-marks : count text_mark h.text + count text_mark (concat h.romans) ≡ length (texts_of h)
  pub roman-marks : count roman_mark h.text ≡ length h.romans
  pub enclosers : h.texts ≡ text_blocks (enclosers_of 0 h.romans h.text) (texts_of h)

-- ---- counting
pub count-append : (m : ℕ) (x y : List ℕ) → count m (x ++ y) ≡ count m x + count m y
unfolding count
count-append m [] y = let e : count m y ≡ 0 + count m y = omega arith in e
count-append m (b ∷ x) y = go (eqb b m) (count-append m x y)
  where
    go : (t : Bool) → count m (x ++ y) ≡ count m x + count m y → cond t (suc (count m (x ++ y))) (count m (x ++ y)) ≡ cond t (suc (count m x)) (count m x) + count m y
    go true e = omega arith
    go false e = e

pub marks-count : (s : List ℕ) → marks s ≡ count text_mark s
unfolding marks count
marks-count [] = refl
marks-count (b ∷ s) = go (eqb b text_mark) (marks-count s)
  where
    go : (t : Bool) → marks s ≡ count text_mark s → elim t as (λ _. ℕ) [ true ↦ suc (marks s) | false ↦ marks s ] ≡ cond t (suc (count text_mark s)) (count text_mark s)
    go true e = ap suc e
    go false e = e

-- a text without marks has none of either kind
pub unmarked-count : (s : List ℕ) → has_mark s ≡ false → (count text_mark s ≡ 0) × (count roman_mark s ≡ 0)
unfolding count
unmarked-count [] e = (refl, refl)
unmarked-count (b ∷ s) e =
    let here = or-neither (is_mark b) (has_mark s) e in
    let both = or-neither (eqb b text_mark) (eqb b roman_mark) here.0 in
    let more = unmarked-count s here.1 in
    (rw both.0 more.0, rw both.1 more.1)

pub count-unmarked : (s : List ℕ) → count text_mark s ≡ 0 → count roman_mark s ≡ 0 → has_mark s ≡ false
unfolding count
count-unmarked [] e f = refl
count-unmarked (b ∷ s) e f = go (eqb b text_mark) (eqb b roman_mark) (count-unmarked s) e f
  where
    go : (t r : Bool) → (count text_mark s ≡ 0 → count roman_mark s ≡ 0 → has_mark s ≡ false) → cond t (suc (count text_mark s)) (count text_mark s) ≡ 0
        → cond r (suc (count roman_mark s)) (count roman_mark s) ≡ 0 → (t || r) || has_mark s ≡ false
    go true r more e f = absurd (omega arith)
    go false true more e f = absurd (omega arith)
    go false false more e f = more e f

-- ---- lists of blocks
pub concat-append : (bs cs : List (List ℕ)) → concat (bs ++ cs) ≡ concat bs ++ concat cs
unfolding concat
concat-append [] cs = refl
concat-append (b ∷ bs) cs = ap (λ l. b ++ l) (concat-append bs cs) ∙ sym (append_assoc b (concat bs) (concat cs))

pub concat-mark-free : (bs : List (List ℕ)) → Every MarkFreeBlock bs → has_mark (concat bs) ≡ false
unfolding Every concat
concat-mark-free [] h = refl
concat-mark-free (b ∷ bs) h = has-mark-append b (concat bs) ∙ ap₂ (λ x y. x || y) h.0.mark-free (concat-mark-free bs h.1)

pub block-append : (bs cs : List (List ℕ)) (k : ℕ) → block_at (bs ++ cs) (length bs + k) ≡ block_at cs k
unfolding block_at
block-append [] cs k = let e : 0 + k ≡ k = omega arith in ap (block_at cs) e
block-append (b ∷ bs) cs k = ap (block_at (b ∷ (bs ++ cs))) (suc-add (length bs) k) ∙ block-append bs cs k

pub block-front : (bs cs : List (List ℕ)) (k : ℕ) → k < length bs → block_at (bs ++ cs) k ≡ block_at bs k
unfolding block_at
block-front [] cs k h = absurd (not-suc-le-zero h)
block-front (b ∷ bs) cs zero h = refl
block-front (b ∷ bs) cs (suc k) h = block-front bs cs k (omega arith)
