-- What a sum of the grammar is converted to, with display on, no definitions and any tall field.
--     prints          where no number refuses, its LaTeX
--     accepts         no number refuses where at most 64 of its fractions stand one within another and its LaTeX has at most 8,192 symbols
--     sum_fits        and only there
--     prints-apart    two sums whose texts are converted to one text have one text
--     only-frac-sum   of the five commands that cause sizing only `\frac` can stand in the LaTeX
--     latex-by-frac   so of the field its bit alone counts
--     unsized-sum     where it is 0, no parentheses are sized
use Rattle.std.specs.Prelude.{◌≡◌, true, false, List, [], ℕ, ◌≤◌, length}
use Rattle.std.proofs.Common.{sym, ap, ◌∙◌}
use Rattle.spec.specs.Symbols.{bytes, contains}
use Rattle.spec.specs.Result.{passed, most_symbols}
use Rattle.spec.specs.Fractions.{most_rounds}
use Rattle.spec.specs.Finish.{frac_bit, tall}
use Rattle.spec.specs.Pipeline.{typst_to_latex}
use Rattle.spec.specs.Grammar.{Sum, proper, text, sum_latex, latex, height}
use Rattle.plain_printing.specs.Tree
use Rattle.plain_printing.proofs.Unlatex.{latex-injective}
use Rattle.plain_printing.proofs.Tall.{only-frac, unsized-tree}
use Rattle.plain_printing.specs.Yields.{Yields, yields-weaken}
use Rattle.plain_printing.proofs.Tables
use Rattle.plain_printing.proofs.Prints.{plain-yields, plain_fits}
use Rattle.plain_printing.proofs.TreeOf.{tree_of, height-tree, plain-tree}
use Rattle.plain_printing.proofs.TreeTexts.{text-tree, latex-tree}

module _ (field : ℕ) where
  -- what numbers 7 and 5 ask: where it holds, no number refuses
  pub record SumFits (s : Sum) : Type 0 where
    pub shallow : height s ≤ most_rounds
    pub short : length (latex field s) ≤ most_symbols

  tree-fits : (s : Sum) → proper s ≡ true → SumFits s → Tables.TreeFits (frac_bit field) (tree_of s)
  tree-fits s h fits = record { shallow = rw (height-tree s) fits.shallow; short = rw (latex-tree field s h) fits.short }

  pub sum-yields : (s : Sum) → proper s ≡ true → Yields (SumFits s) (typst_to_latex [] true field (text s)) (latex field s)
  sum-yields s h = rw (← text-tree s h, ← latex-tree field s h) (yields-weaken (tree-fits s h) (plain-yields field (tree_of s) (plain-tree s h)))

  pub prints : (s : Sum) → proper s ≡ true → (x : List ℕ) → typst_to_latex [] true field (text s) ≡ passed x → x ≡ latex field s
  prints s h = (sum-yields s h).passes-only

  pub accepts : (s : Sum) → proper s ≡ true → height s ≤ most_rounds → length (latex field s) ≤ most_symbols → typst_to_latex [] true field (text s) ≡ passed (latex field s)
  accepts s h shallow short = (sum-yields s h).passes (record { shallow = shallow; short = short })

  pub sum_fits : (s : Sum) → proper s ≡ true → {x : List ℕ} → typst_to_latex [] true field (text s) ≡ passed x → SumFits s
  sum_fits s h e =
      let fits = plain_fits field (tree_of s) (plain-tree s h) (rw (← text-tree s h) at e) in
      record { shallow = rw (height-tree s) at fits.shallow; short = rw (latex-tree field s h) at fits.short }

  -- ---- what the field changes; 15 has the bits of the four other commands
  pub only-frac-sum : (s : Sum) → proper s ≡ true → tall 15 (latex field s) ≡ false
  only-frac-sum s h = rw (← latex-tree field s h) (only-frac (frac_bit field) (Tree.height (tree_of s)) (tree_of s))

  pub unsized-sum : frac_bit field ≡ false → (s : Sum) → proper s ≡ true → (contains (bytes "\\left") (latex field s) ≡ false) × (contains (bytes "\\right") (latex field s) ≡ false)
  unsized-sum e s h = rw (← latex-tree field s h, e) (unsized-tree (Tree.height (tree_of s)) (tree_of s))

pub latex-by-frac : (field field₁ : ℕ) → frac_bit field ≡ frac_bit field₁ → (s : Sum) → latex field s ≡ latex field₁ s
unfolding latex
latex-by-frac field field₁ e s = ap (λ b. sum_latex b s) e

-- ---- no two alike, be it under one field or under two
pub sums_apart : (field field₁ : ℕ) (s s₁ : Sum) → proper s ≡ true → proper s₁ ≡ true → latex field s ≡ latex field₁ s₁ → text s ≡ text s₁
sums_apart field field₁ s s₁ h h₁ e =
    sym (text-tree s h)
    ∙ latex-injective (frac_bit field) (frac_bit field₁) (tree_of s) (tree_of s₁) (latex-tree field s h ∙ e ∙ sym (latex-tree field₁ s₁ h₁))
    ∙ text-tree s₁ h₁

pub prints-apart : (field field₁ : ℕ) (s s₁ : Sum) → proper s ≡ true → proper s₁ ≡ true → (x : List ℕ)
    → typst_to_latex [] true field (text s) ≡ passed x → typst_to_latex [] true field₁ (text s₁) ≡ passed x → text s ≡ text s₁
prints-apart field field₁ s s₁ h h₁ x e f = sums_apart field field₁ s s₁ h h₁ (sym (prints field s h x e) ∙ prints field₁ s₁ h₁ x f)
