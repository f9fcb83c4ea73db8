-- The tables on a plain formula: functions and operators find nothing, the Greek names get their backslashes, words and capitals find nothing to change.
use Rattle.std.specs.Prelude.{◌≡◌, refl, Bool, ◌&&◌}
use Rattle.std.proofs.Math.Bool.{true, false}
use mathlib.Core.List.{List, [], ◌∷◌}
use Prim.Native.Nat.{ℕ, suc, ◌+◌, ◌≤◌}
use Rattle.std.proofs.Common.{zero-add, le_trans}
use native.Mathlib.Omega.{arith}
use Rattle.std.proofs.Math.ListN.{length}
use Rattle.spec.specs.Symbols.{bytes}
use Rattle.spec.specs.Sweep.{sweep, replace}
use Rattle.spec.specs.Result.{most_symbols}
use Rattle.spec.specs.Held.{hold_both, put_back}
use Rattle.spec.specs.Rows.{Row, function_mappings, operator_replacements, greek_letters, word_mappings, greek_capitals}
use Rattle.spec.specs.Words.{replace_rows, greek, capital, word_or_literal, held_rows, convert_words, capitals}
use Rattle.spec.specs.Fractions.{most_rounds}
use Rattle.spec.specs.Laws.Booleans.{and_left, and_right}
use Rattle.spec.specs.Laws.Held.{unheld, in-full-none}
use Rattle.spec.specs.Laws.Absent.{replace_absent}
use Rattle.plain_printing.specs.Tree.{Tree, height, typed_style, marked_style, write, text, tree_latex}
use Rattle.plain_printing.proofs.Absent.{stopped, absent-typed}
use Rattle.plain_printing.proofs.WordsCopy.{two_letters, word_row, word-row-copies, capital-row-copies}
use Rattle.plain_printing.proofs.Greek.{all_rows_at, pass_rule, passes-hold, greek-pass}
use Rattle.plain_printing.proofs.Growth.{latex-longest}
use Rattle.plain_printing.specs.Blocks.{both-nowhere}
use Rattle.plain_printing.specs.Yields.{Yields, passed-yields, then-yields, stage-yields, held-yields}

-- what numbers 5 and 7 ask of a plain formula: at most 64 of its fractions stand one within another, and its LaTeX, sized or not, is not overgrown
pub record TreeFits (sized : Bool) (t : Tree) : Type 0 where
  pub shallow : height t ≤ most_rounds
  pub short : length (tree_latex sized t) ≤ most_symbols

abbrev every : (Row → Bool) → List Row → Bool
every test [] = true
every test (r ∷ rs) = test r && every test rs

module _ (sized : Bool) (t : Tree) where
  pub early-short : (k : ℕ) (b c : Bool) (n : ℕ) → TreeFits sized t → length (write (record { greeks = k; low = b; high = c; sized = false }) n t) ≤ most_symbols
  early-short k b c n fits = le_trans (latex-longest k b c sized n t) fits.short

  typed-short : (k : ℕ) → TreeFits sized t → length (write (typed_style k) 0 t) ≤ most_symbols
  typed-short k fits = early-short k false false 0 fits

  -- ---- functions and operators
  rows-yield : (rs : List Row) → every (λ r. stopped r.typst) rs ≡ true → Yields (TreeFits sized t) (replace_rows rs (text t)) (text t)
  unfolding replace_rows
  rows-yield [] h = passed-yields (text t)
  rows-yield (r ∷ rs) h =
      let here : stopped r.typst ≡ true = and_left (stopped r.typst) (every (λ r. stopped r.typst) rs) h in
      then-yields _ (replace_rows rs)
      (stage-yields (replace r.typst r.latex) (text t) (replace_absent r.typst r.latex (text t) (absent-typed r.typst here t)) (typed-short 0))
      (rows-yield rs (and_right (stopped r.typst) (every (λ r. stopped r.typst) rs) h))

  pub functions-yield : Yields (TreeFits sized t) (replace_rows function_mappings (text t)) (text t)
  functions-yield = rows-yield function_mappings refl

  pub operators-yield : Yields (TreeFits sized t) (replace_rows operator_replacements (text t)) (text t)
  operators-yield = rows-yield operator_replacements refl

  -- ---- Greek names
  greek-yields : (rs : List Row) (k : ℕ) → all_rows_at pass_rule k rs ≡ true → Yields (TreeFits sized t) (held_rows greek rs (unheld (write (typed_style k) 0 t))) (unheld (write (typed_style (length rs + k)) 0 t))
  unfolding held_rows
  greek-yields [] k h = rw (zero-add k) (passed-yields (unheld (write (typed_style k) 0 t)))
  greek-yields (r ∷ rs) k h =
      let shift : suc (length rs) + k ≡ length rs + suc k = omega arith in
      rw shift
      (then-yields _ (held_rows greek rs)
      (held-yields (sweep (greek r) 0 0) (write (typed_style k) 0 t) (greek-pass k r.typst r.latex (and_left (pass_rule k r) (all_rows_at pass_rule (suc k) rs) h) t) (typed-short (suc k)))
      (greek-yields rs (suc k) (and_right (pass_rule k r) (all_rows_at pass_rule (suc k) rs) h)))

  -- ---- words
  abbrev marked : List ℕ
  marked = write (marked_style false false) 0 t

  word-yields : (rs : List Row) → every word_row rs ≡ true → Yields (TreeFits sized t) (held_rows word_or_literal rs (unheld marked)) (unheld marked)
  unfolding held_rows
  word-yields [] h = passed-yields (unheld marked)
  word-yields (r ∷ rs) h =
      then-yields _ (held_rows word_or_literal rs)
      (held-yields (sweep (word_or_literal r) 0 0) marked (word-row-copies false false 0 t r (and_left (word_row r) (every word_row rs) h)) (typed-short 30))
      (word-yields rs (and_right (word_row r) (every word_row rs) h))

  names-yield : Yields (TreeFits sized t) (held_rows greek greek_letters (hold_both (text t))) (unheld marked)
  names-yield = rw (both-nowhere (text t) (absent-typed (bytes "\\text{") refl t) (absent-typed (bytes "\\mathrm{") refl t)) (greek-yields greek_letters 0 passes-hold)

  back-yields : Yields (TreeFits sized t) (put_back (unheld marked)) marked
  back-yields = rw (in-full-none marked) (passed-yields marked)

  pub words-yield : Yields (TreeFits sized t) (convert_words (text t)) marked
  unfolding convert_words
  words-yield = then-yields _ put_back (then-yields _ (held_rows word_or_literal word_mappings) names-yield (word-yields word_mappings refl)) back-yields

  -- ---- Phi and Psi
  capital-yields : (rs : List Row) → every (λ r. two_letters r.typst) rs ≡ true → Yields (TreeFits sized t) (capitals rs marked) marked
  unfolding capitals
  capital-yields [] h = passed-yields marked
  capital-yields (r ∷ rs) h =
      then-yields _ (capitals rs)
      (stage-yields (sweep (capital r) 0 0) marked (capital-row-copies false false 0 t r (and_left (two_letters r.typst) (every (λ r. two_letters r.typst) rs) h)) (typed-short 30))
      (capital-yields rs (and_right (two_letters r.typst) (every (λ r. two_letters r.typst) rs) h))

  pub capitals-yield : Yields (TreeFits sized t) (capitals greek_capitals marked) marked
  capitals-yield = capital-yields greek_capitals refl
