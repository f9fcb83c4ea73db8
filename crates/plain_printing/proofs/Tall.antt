-- Which texts are tall. Of the five commands that cause sizing only `\frac` can stand in a tree's text, so of the tall field its bit alone counts.
--     tall-tree       a stacked text before sizing is tall where a fraction lies in it and `\frac` counts
--     only-frac       of the five, no other stands in a tree's LaTeX
--     unsized-tree    nor does `\left` or `\right` where nothing is sized
use Rattle.std.specs.Prelude.{◌≡◌, refl, Bool, true, false, not, ◌&&◌, ◌||◌, cond, List, [], ◌∷◌, ◌++◌, ◌⊎◌, ℕ, zero, suc, pred, ◌≤◌, eqb}
use Rattle.std.proofs.Common.{sym, ap, ap₂, ◌∙◌, true≢false, append-nil, append_assoc, inl, inr, arith}
use Rattle.std.proofs.lemmas.Bool.{false≢true, not-true}
use Rattle.std.proofs.Math.Bool.{and-false, or-false}
use Prim.Native.Char.{code}
use Rattle.spec.specs.Symbols.{bytes, digit, alnum, all, starts, contains}
use Rattle.spec.specs.Fractions.{frac}
use Rattle.spec.specs.Finish.{bit, frac_bit, tall}
use Rattle.spec.specs.Grammar.{Atom, variable, greek, number, greek_names, greek_name}
use Rattle.spec.specs.Laws.Booleans.{and_left, and_right, or_right}
use Rattle.spec.specs.Laws.Names.{all_rows}
use Rattle.plain_printing.specs.Tree.{Tree, TreeScript, Join, beside, plus, minus, atom, fraction, group, row, bare, symbol, inner, atom_writing, join_text, operand, parens, lone, slashless, slashless_script, height, height_script, unstacked, braced_style, final_style, write, write_script, either_way, stacked}
use Rattle.plain_printing.specs.Classes.{apart, all-weaken}
use Rattle.plain_printing.proofs.Unlatex.{clash, clash-starts, no-command, letter-alnum, digit-alnum, greek-alnum}

-- ---- a command that a tree's text does not hold
abbrev no_backslash : ℕ → Bool
no_backslash x = not (eqb x (code "\\"))

module _ (w : List ℕ) (rows : all_rows (clash w) greek_names ≡ true) where
  record Silent (s : List ℕ) : Type 0 where
    silent : (r : List ℕ) → contains (code "\\" ∷ w) (s ++ r) ≡ contains (code "\\" ∷ w) r

  silent-run : (s : List ℕ) → all no_backslash s ≡ true → (r : List ℕ) → contains (code "\\" ∷ w) (s ++ r) ≡ contains (code "\\" ∷ w) r
  silent-run [] h r = refl
  silent-run (x ∷ s) h r =
      let other : eqb x (code "\\") ≡ false = not-true (eqb x (code "\\")) (and_left (no_backslash x) (all no_backslash s) h) in
      let unstarted : starts (code "\\" ∷ w) (x ∷ (s ++ r)) ≡ false = ap (λ b. starts w (s ++ r) && b) other ∙ and-false (starts w (s ++ r)) in
      ap (λ b. b || contains (code "\\" ∷ w) (s ++ r)) unstarted ∙ silent-run s (and_right (no_backslash x) (all no_backslash s) h) r

  silent-text : (s : List ℕ) → all no_backslash s ≡ true → Silent s
  silent-text s h = record { silent = silent-run s h }

  silent-both : {s t : List ℕ} → Silent s → Silent t → Silent (s ++ t)
  silent-both {s} {t} p q = record { silent = λ r. rw (append_assoc s t r) (p.silent (t ++ r) ∙ q.silent r) }

  silent-around : (x : ℕ) {s : List ℕ} (y : ℕ) → no_backslash x ≡ true → no_backslash y ≡ true → Silent s → Silent (x ∷ (s ++ y ∷ []))
  silent-around x y hx hy p = silent-both (silent-text (x ∷ []) (rw hx)) (silent-both p (silent-text (y ∷ []) (rw hy)))

  -- another command
  silent-command : (v : List ℕ) → ((r : List ℕ) → starts w (v ++ r) ≡ false) → all no_backslash v ≡ true → Silent (code "\\" ∷ v)
  silent-command v other h = record { silent = λ r. ap (λ b. b && true || contains (code "\\" ∷ w) (v ++ r)) (other r) ∙ silent-run v h r }

  no-slash-alnum : (x : ℕ) → alnum x ≡ true → no_backslash x ≡ true
  no-slash-alnum x h = ap not (apart alnum x (code "\\") h refl)

  silent-atom : (a : Atom) → Silent (atom_writing 30 a)
  silent-atom (variable c e) = silent-text (c ∷ []) (rw (no-slash-alnum c (letter-alnum c e)))
  silent-atom (greek i e) =
      rw (e, cond) (silent-command (greek_name i) (no-command w rows i e) (all-weaken alnum no_backslash no-slash-alnum (greek_name i) (greek-alnum i e)))
  silent-atom (number ds e b) = silent-text ds (all-weaken digit no_backslash (λ x h. no-slash-alnum x (digit-alnum x h)) ds e)

  silent-join : (j : Join) → Silent (join_text j)
  silent-join beside = silent-text (bytes " ") refl
  silent-join plus = silent-text (bytes " + ") refl
  silent-join minus = silent-text (bytes " - ") refl

  silent-operand : (b : Bool) {s : List ℕ} → Silent s → Silent (operand b s)
  silent-operand true p = p
  silent-operand false p = silent-around (code "(") (code ")") refl refl p

  -- `\left` and `\right` stand where groups are sized
  abbrev ApartSizes : Bool → Type 0
  ApartSizes sized = sized ≡ true → (clash w (bytes "left(") ≡ true) × (clash w (bytes "right)") ≡ true)

  unsized-apart : ApartSizes false
  unsized-apart e = absurd (false≢true e)

  silent-parens : (b c : Bool) → ApartSizes b → {s : List ℕ} → Silent s → Silent (parens (b && c) s)
  silent-parens true true sizes p =
      let h = sizes refl in
      silent-both (silent-command (bytes "left(") (λ r. clash-starts w (bytes "left(") r h.0) refl)
      (silent-both p (silent-command (bytes "right)") (λ r. clash-starts w (bytes "right)") r h.1) refl))
  silent-parens true false sizes p = silent-around (code "(") (code ")") refl refl p
  silent-parens false c sizes p = silent-around (code "(") (code ")") refl refl p

  -- `\frac` stands where fractions are allowed
  module _ (fractions : Bool) (apart-frac : fractions ≡ true → clash w (bytes "frac{") ≡ true) where
    abbrev Allowed : Bool → Type 0
    Allowed without = fractions ≡ false → without ≡ true

    allowed : (b : Bool) → (b ≡ false → false ≡ true) → b ≡ true
    allowed true h = refl
    allowed false h = absurd (false≢true (h refl))

    silent-frac : {s t : List ℕ} → Allowed false → Silent s → Silent t → Silent (frac s t)
    silent-frac e p q =
        silent-both (silent-command (bytes "frac{") (λ r. clash-starts w (bytes "frac{") r (apart-frac (allowed fractions e))) refl)
        (silent-both p (silent-both (silent-text (bytes "}{") refl) (silent-both q (silent-text (bytes "}") refl))))

    mutual
      unfolding write write_script

      silent-tree : (b : Bool) → ApartSizes b → (n : ℕ) (t : Tree) → Allowed (slashless t) → Silent (write (final_style b) n t)
      silent-tree b k n (atom a l h) e =
          silent-both (silent-atom a)
          (silent-both (silent-script b n (code "_") refl l (λ f. and_left (slashless_script l) (slashless_script h) (e f)))
          (silent-script b n (code "^") refl h (λ f. and_right (slashless_script l) (slashless_script h) (e f))))
      silent-tree b k n (fraction t u) e =
          let all-allowed : (c : Bool) → Allowed c = λ c f. absurd (false≢true (e f)) in
          either_way Silent (unstacked n t)
          (silent-both (silent-operand (lone t) (silent-tree b k n t (all-allowed _))) (silent-both (silent-text (bytes "/") refl) (silent-operand (lone u) (silent-tree b k n u (all-allowed _)))))
          (silent-frac e (silent-tree b k (pred n) t (all-allowed _)) (silent-tree b k (pred n) u (all-allowed _)))
      silent-tree b k n (group t) e = silent-parens b (not (slashless t)) k (silent-tree b k n t e)
      silent-tree b k n (row t j u) e =
          silent-both (silent-tree b k n t (λ f. and_left (slashless t) (slashless u) (e f)))
          (silent-both (silent-join j) (silent-tree b k n u (λ f. and_right (slashless t) (slashless u) (e f))))

      silent-script : (b : Bool) (n m : ℕ) → no_backslash m ≡ true → (c : TreeScript) → Allowed (slashless_script c) → Silent (write_script (final_style b) n (m ∷ []) true c)
      silent-script b n m k bare e = silent-text [] refl
      silent-script b n m k (symbol c i) e = silent-text (m ∷ c ∷ []) (rw (k, no-slash-alnum c i))
      silent-script b n m k (inner t) e = silent-both (silent-text (m ∷ []) (rw k)) (silent-around (code "{") (code "}") refl refl (silent-tree false unsized-apart n t e))

    absent-in : (b : Bool) → ApartSizes b → (n : ℕ) (t : Tree) → Allowed (slashless t) → contains (code "\\" ∷ w) (write (final_style b) n t) ≡ false
    absent-in b k n t e = ap (contains (code "\\" ∷ w)) (sym (append-nil (write (final_style b) n t))) ∙ (silent-tree b k n t e).silent []

  -- wherever fractions stand
  absent-command : clash w (bytes "frac{") ≡ true → (b : Bool) → ApartSizes b → (n : ℕ) (t : Tree) → contains (code "\\" ∷ w) (write (final_style b) n t) ≡ false
  absent-command h b k n t = absent-in true (λ e. h) b k n t (λ e. absurd (true≢false e))

-- ---- a stacked text with a slash holds \frac
record Fractured (s : List ℕ) : Type 0 where
  holds-frac : (r : List ℕ) → contains (bytes "\\frac") (s ++ r) ≡ true

contains-behind : (w u r : List ℕ) → contains w r ≡ true → contains w (u ++ r) ≡ true
contains-behind w [] r h = h
contains-behind w (x ∷ u) r h = or_right (starts w (x ∷ (u ++ r))) (contains w (u ++ r)) (contains-behind w u r h)

frac-before : {s : List ℕ} (u : List ℕ) → Fractured s → Fractured (s ++ u)
frac-before {s} u p = record { holds-frac = λ r. rw (append_assoc s u r) (p.holds-frac (u ++ r)) }

frac-behind : (u : List ℕ) {s : List ℕ} → Fractured s → Fractured (u ++ s)
frac-behind u {s} p = record { holds-frac = λ r. rw (append_assoc u s r) (contains-behind (bytes "\\frac") u (s ++ r) (p.holds-frac r)) }

and_cases : (a b : Bool) → a && b ≡ false → (a ≡ false) ⊎ (b ≡ false)
and_cases true b e = inr e
and_cases false b e = inl refl

mutual
  unfolding write write_script

  fractured : (n : ℕ) (t : Tree) → height t ≤ n → slashless t ≡ false → Fractured (write braced_style n t)
  fractured n (atom a l h) d e =
      frac-behind (atom_writing 30 a) (elim (and_cases (slashless_script l) (slashless_script h) e) [
        | inl p ↦ frac-before _ (fractured-script n (bytes "_") l (omega arith) p)
        | inr p ↦ frac-behind (write_script braced_style n (bytes "_") true l) (fractured-script n (bytes "^") h (omega arith) p)
      ])
  fractured zero (fraction t u) d e = absurd (omega arith)
  fractured (suc n) (fraction t u) d e = rw (stacked braced_style n t u (omega arith)) (record { holds-frac = λ r. refl })
  fractured n (group t) d e = frac-behind (bytes "(") (frac-before (bytes ")") (fractured n t d e))
  fractured n (row t j u) d e =
      elim (and_cases (slashless t) (slashless u) e) [
        | inl p ↦ frac-before _ (fractured n t (omega arith) p)
        | inr p ↦ frac-behind (write braced_style n t) (frac-behind (join_text j) (fractured n u (omega arith) p))
      ]

  fractured-script : (n : ℕ) (m : List ℕ) (c : TreeScript) → height_script c ≤ n → slashless_script c ≡ false → Fractured (write_script braced_style n m true c)
  fractured-script n m bare d e = absurd (true≢false e)
  fractured-script n m (symbol c i) d e = absurd (true≢false e)
  fractured-script n m (inner t) d e = frac-behind m (frac-behind (bytes "{") (frac-before (bytes "}") (fractured n t d e)))

-- ---- tall is: has a slash
contains-alone : (w s : List ℕ) → contains w (s ++ []) ≡ contains w s
contains-alone w s = ap (contains w) (append-nil s)

holds-frac-tree : (n : ℕ) (t : Tree) → height t ≤ n → contains (bytes "\\frac") (write braced_style n t) ≡ not (slashless t)
holds-frac-tree n t d = go (slashless t) refl
  where
    go : (b : Bool) → slashless t ≡ b → contains (bytes "\\frac") (write braced_style n t) ≡ not b
    go true e = absent-in (bytes "frac") refl false (λ f. absurd (false≢true f)) false (unsized-apart (bytes "frac") refl) n t (λ f. e)
    go false e = sym (contains-alone (bytes "\\frac") (write braced_style n t)) ∙ (fractured n t d e).holds-frac []

-- what the bits of the other four commands ask for
abbrev others : ℕ → List ℕ → Bool
others field s = bit 8 field && contains (bytes "\\sqrt") s || (bit 4 field && contains (bytes "\\binom") s || (bit 2 field && contains (bytes "\\sum") s || bit 1 field && contains (bytes "\\int") s))

no-others : (field : ℕ) (b : Bool) (n : ℕ) (t : Tree) → others field (write (final_style b) n t) ≡ false
no-others field b n t =
    rw (
      absent-command (bytes "sqrt") refl refl b (λ e. (refl, refl)) n t,
      absent-command (bytes "binom") refl refl b (λ e. (refl, refl)) n t,
      absent-command (bytes "sum") refl refl b (λ e. (refl, refl)) n t,
      absent-command (bytes "int") refl refl b (λ e. (refl, refl)) n t,
      and-false (bit 8 field),
      and-false (bit 4 field),
      and-false (bit 2 field),
      and-false (bit 1 field),
    )

pub tall-tree : (field n : ℕ) (t : Tree) → height t ≤ n → tall field (write braced_style n t) ≡ frac_bit field && not (slashless t)
tall-tree field n t d = ap₂ (λ a b. frac_bit field && a || b) (holds-frac-tree n t d) (no-others field false n t) ∙ or-false (frac_bit field && not (slashless t))

-- 15 has the bits of the other four
pub only-frac : (b : Bool) (n : ℕ) (t : Tree) → tall 15 (write (final_style b) n t) ≡ false
only-frac b n t = no-others 15 b n t

pub unsized-tree : (n : ℕ) (t : Tree) → (contains (bytes "\\left") (write (final_style false) n t) ≡ false) × (contains (bytes "\\right") (write (final_style false) n t) ≡ false)
unsized-tree n t =
    (absent-command (bytes "left") refl refl false (unsized-apart (bytes "left") refl) n t, absent-command (bytes "right") refl refl false (unsized-apart (bytes "right") refl) n t)
