-- The formula is read back from its LaTeX, so two formulas with one LaTeX are one.
use Rattle.std.specs.Prelude.{◌≡◌, refl, Bool, true, false, not, ◌&&◌, ◌||◌, cond, List, [], ◌∷◌, ◌++◌, ℕ, zero, suc, ◌≤◌, eqb, ltb, drop}
use Rattle.std.proofs.Common.{sym, ap, ◌∙◌, true≢false, append-nil, append_assoc, le_refl, arith, ltb-true, le-ltb}
use Rattle.std.proofs.Math.Bool.{and-false, and-true}
use Prim.Native.Char.{code}
use Rattle.spec.specs.Symbols.{bytes, letter, digit, alnum, all, starts}
use Rattle.spec.specs.Grammar.{Atom, variable, greek, number, greek_names, greek_name}
use Rattle.spec.specs.Laws.Booleans.{and_left, and_right, or_right}
use Rattle.spec.specs.Laws.Names.{all_rows, row-rule}
use Rattle.plain_printing.specs.Tree.{Tree, TreeScript, Join, beside, plus, minus, atom, fraction, group, row, bare, symbol, inner, atom_writing, join_text, operand, lone, parens, slashless, height, height_script, typst_style, final_style, write, write_script, stacked, text, tree_latex}
use Rattle.plain_printing.specs.Classes.{apart, all-weaken}
use Rattle.plain_printing.proofs.Written.{greek-letters}

-- what a closing brace closes
pub data Frame : Type 0 where
  numerator denominator : Bool → Frame
  script : Frame

-- is the operand that begins here a lone atom?
abbrev pub bare_ahead : List ℕ → Bool
bare_ahead [] = false
bare_ahead (x ∷ s) = elim (alnum x || eqb x (code "\\")) [ true ↦ bare_ahead s | false ↦ eqb x (code "}") ]

abbrev pub opening_paren : Bool → List ℕ
opening_paren true = []
opening_paren false = bytes "("

abbrev pub closing_paren : Bool → List ℕ
closing_paren true = []
closing_paren false = bytes ")"

-- k symbols are to skip
unfoldable pub unlatex : ℕ → List Frame → List ℕ → List ℕ
unlatex k fs [] = []
unlatex (suc k) fs (x ∷ s) = unlatex k fs s
unlatex zero fs (x ∷ s) =
    elim (eqb x (code "\\")) [
      | true ↦ elim (starts (bytes "frac{") s) [
        | true ↦ opening_paren (bare_ahead (drop 5 s)) ++ unlatex 5 (numerator (bare_ahead (drop 5 s)) ∷ fs) s
        | false ↦ elim (starts (bytes "left(") s) [
          | true ↦ unlatex 4 fs s
          | false ↦ elim (starts (bytes "right)") s) [ true ↦ unlatex 5 fs s | false ↦ unlatex 0 fs s ]
        ]
      ]
      | false ↦ elim (eqb x (code "{")) [
        | true ↦ code "(" ∷ unlatex 0 (script ∷ fs) s
        | false ↦ elim (eqb x (code "}")) [
          | true ↦ elim fs [
            | [] ↦ unlatex 0 [] s
            | f ∷ gs ↦ elim f [
              | numerator b ↦ closing_paren b ++ (code "/" ∷ (opening_paren (bare_ahead (drop 1 s)) ++ unlatex 1 (denominator (bare_ahead (drop 1 s)) ∷ gs) s))
              | denominator b ↦ closing_paren b ++ unlatex 0 gs s
              | script ↦ code ")" ∷ unlatex 0 gs s
            ]
          ]
          | false ↦ x ∷ unlatex 0 fs s
        ]
      ]
    ]

-- ---- copied symbols
copy-one : (x : ℕ) → alnum x ≡ true → (fs : List Frame) (r : List ℕ) → unlatex 0 fs (x ∷ r) ≡ x ∷ unlatex 0 fs r
unfolding unlatex
copy-one x h fs r = rw (apart alnum x (code "\\") h refl, apart alnum x (code "{") h refl, apart alnum x (code "}") h refl, unlatex)

copy : (w : List ℕ) → all alnum w ≡ true → (fs : List Frame) (r : List ℕ) → unlatex 0 fs (w ++ r) ≡ w ++ unlatex 0 fs r
copy [] h fs r = refl
copy (x ∷ w) h fs r = copy-one x (and_left (alnum x) (all alnum w) h) fs (w ++ r) ∙ ap {B = List ℕ} (λ l. x ∷ l) (copy w (and_right (alnum x) (all alnum w) h) fs r)

-- ---- a Greek name is no command
abbrev pub clash : List ℕ → List ℕ → Bool
clash [] s = false
clash (k ∷ w) [] = false
clash (k ∷ w) (x ∷ s) = clash w s || not (eqb x k)

clash-step : (c e s : Bool) → c || not e ≡ true → (c ≡ true → s ≡ false) → s && e ≡ false
clash-step true e s h f = rw (f refl)
clash-step false true s h f = absurd (true≢false (sym h))
clash-step false false s h f = and-false s

pub clash-starts : (w v r : List ℕ) → clash w v ≡ true → starts w (v ++ r) ≡ false
clash-starts [] v r h = absurd (true≢false (sym h))
clash-starts (k ∷ w) [] r h = absurd (true≢false (sym h))
clash-starts (k ∷ w) (x ∷ v) r h = clash-step (clash w v) (eqb x k) (starts w (v ++ r)) h (clash-starts w v r)

pub no-command : (w : List ℕ) → all_rows (clash w) greek_names ≡ true → (i : ℕ) → ltb i 30 ≡ true → (r : List ℕ) → starts w (greek_name i ++ r) ≡ false
unfolding greek_name
no-command w t i e r = clash-starts w (greek_name i) r (row-rule (clash w) greek_names t i (ltb-true i 30 e))

pub letter-alnum : (x : ℕ) → letter x ≡ true → alnum x ≡ true
letter-alnum x h = rw h

pub digit-alnum : (x : ℕ) → digit x ≡ true → alnum x ≡ true
digit-alnum x h = or_right (letter x) (digit x) h

pub greek-alnum : (i : ℕ) → ltb i 30 ≡ true → all alnum (greek_name i) ≡ true
greek-alnum i e = all-weaken letter alnum letter-alnum (greek_name i) (greek-letters i e)

copy-greek : (i : ℕ) → ltb i 30 ≡ true → (fs : List Frame) (r : List ℕ) → unlatex 0 fs (code "\\" ∷ (greek_name i ++ r)) ≡ greek_name i ++ unlatex 0 fs r
unfolding unlatex
copy-greek i e fs r =
    rw (no-command (bytes "frac{") refl i e r, no-command (bytes "left(") refl i e r, no-command (bytes "right)") refl i e r, unlatex) (copy (greek_name i) (greek-alnum i e) fs r)

copy-atom : (a : Atom) (fs : List Frame) (r : List ℕ) → unlatex 0 fs (atom_writing 30 a ++ r) ≡ atom_writing 0 a ++ unlatex 0 fs r
copy-atom (variable c e) fs r = copy-one c (letter-alnum c e) fs r
copy-atom (greek i e) fs r = rw (e, cond, le-ltb i 0 (omega arith)) (copy-greek i e fs r)
copy-atom (number ds e b) fs r = copy ds (all-weaken digit alnum digit-alnum ds e) fs r

-- ---- the operand ahead
abbrev pub bare_symbol : ℕ → Bool
bare_symbol x = alnum x || eqb x (code "\\")

alnum-bare : (x : ℕ) → alnum x ≡ true → bare_symbol x ≡ true
alnum-bare x h = rw h

bare-run : (w : List ℕ) → all bare_symbol w ≡ true → (r : List ℕ) → bare_ahead (w ++ r) ≡ bare_ahead r
bare-run [] h r = refl
bare-run (x ∷ w) h r = rw (and_left (bare_symbol x) (all bare_symbol w) h, bare_ahead) (bare-run w (and_right (bare_symbol x) (all bare_symbol w) h) r)

pub atom-bare : (a : Atom) → all bare_symbol (atom_writing 30 a) ≡ true
atom-bare (variable c e) = rw (alnum-bare c (letter-alnum c e))
atom-bare (greek i e) = rw (e, cond) (all-weaken alnum bare_symbol alnum-bare (greek_name i) (greek-alnum i e))
atom-bare (number ds e b) = all-weaken digit bare_symbol (λ x h. alnum-bare x (digit-alnum x h)) ds e

bare-atom : (a : Atom) (r : List ℕ) → bare_ahead (atom_writing 30 a ++ r) ≡ bare_ahead r
bare-atom a r = bare-run (atom_writing 30 a) (atom-bare a) r

ahead-parens : (c : Bool) (s r : List ℕ) → bare_ahead (parens c s ++ r) ≡ false
ahead-parens true s r = refl
ahead-parens false s r = refl

ahead-join : (j : Join) (r : List ℕ) → bare_ahead (join_text j ++ r) ≡ false
ahead-join beside r = refl
ahead-join plus r = refl
ahead-join minus r = refl

ahead-scripts : (b : Bool) (n : ℕ) (a : Atom) (l h : TreeScript) (r : List ℕ)
    → bare_ahead (write_script (final_style b) n (bytes "_") true l ++ (write_script (final_style b) n (bytes "^") true h ++ r)) ≡ lone (atom a l h) && bare_ahead r
unfolding write_script
ahead-scripts b n a bare bare r = refl
ahead-scripts b n a bare (symbol c e) r = refl
ahead-scripts b n a bare (inner t) r = refl
ahead-scripts b n a (symbol c e) h r = refl
ahead-scripts b n a (inner t) h r = refl

-- a stacked text is a lone atom's or meets another symbol before any closing brace
ahead : (b : Bool) (n : ℕ) (t : Tree) → height t ≤ n → (r : List ℕ) → bare_ahead (write (final_style b) n t ++ r) ≡ lone t && bare_ahead r
unfolding write
ahead b n (atom a l h) d r = simp append_assoc (bare-atom a _ ∙ ahead-scripts b n a l h r)
ahead b zero (fraction t u) d r = absurd (omega arith)
ahead b (suc n) (fraction t u) d r = rw (stacked (final_style b) n t u (omega arith))
ahead b n (group t) d r = ahead-parens (b && not (slashless t)) (write (final_style b) n t) r
ahead b n (row t j u) d r = simp append_assoc (ahead b n t (omega arith) _ ∙ ap (λ c. lone t && c) (ahead-join j _) ∙ and-false (lone t))

ahead-closed : (b : Bool) (n : ℕ) (t : Tree) → height t ≤ n → (r : List ℕ) → bare_ahead (write (final_style b) n t ++ code "}" ∷ r) ≡ lone t
ahead-closed b n t d r = ahead b n t d (code "}" ∷ r) ∙ and-true (lone t)

-- ---- reading back
operand-parts : (c : Bool) (s r : List ℕ) → operand c s ++ r ≡ opening_paren c ++ (s ++ (closing_paren c ++ r))
operand-parts true s r = refl
operand-parts false s r = simp append_assoc

abbrev Reads : Bool → ℕ → Tree → Type 0
Reads b n t = (fs : List Frame) (r : List ℕ) → unlatex 0 fs (write (final_style b) n t ++ r) ≡ text t ++ unlatex 0 fs r

abbrev ReadsScript : Bool → ℕ → ℕ → TreeScript → Type 0
ReadsScript b n m c = (fs : List Frame) (r : List ℕ)
    → unlatex 0 fs (write_script (final_style b) n (m ∷ []) true c ++ r) ≡ write_script typst_style 0 (m ∷ []) false c ++ unlatex 0 fs r

reads-parens : (c b : Bool) (n : ℕ) (t : Tree) → Reads b n t → (fs : List Frame) (r : List ℕ)
    → unlatex 0 fs (parens c (write (final_style b) n t) ++ r) ≡ code "(" ∷ (text t ++ code ")" ∷ unlatex 0 fs r)
unfolding unlatex
reads-parens true b n t reads fs r = simp append_assoc (ap {B = List ℕ} (λ l. code "(" ∷ l) (reads fs (bytes "\\right)" ++ r)))
reads-parens false b n t reads fs r = simp append_assoc (ap {B = List ℕ} (λ l. code "(" ∷ l) (reads fs (code ")" ∷ r)))

reads-join : (j : Join) (fs : List Frame) (r : List ℕ) → unlatex 0 fs (join_text j ++ r) ≡ join_text j ++ unlatex 0 fs r
unfolding unlatex
reads-join beside fs r = refl
reads-join plus fs r = refl
reads-join minus fs r = refl

reads-fraction : (b : Bool) (n : ℕ) (t u : Tree) → height t ≤ n → height u ≤ n → Reads b n t → Reads b n u → Reads b (suc n) (fraction t u)
unfolding write unlatex
reads-fraction b n t u d e num den fs r =
    let end : List ℕ = write (final_style b) n u ++ code "}" ∷ r in
    let below : List ℕ = opening_paren (lone u) ++ (text u ++ (closing_paren (lone u) ++ unlatex 0 fs r)) in
    let denominator-read : unlatex 0 (numerator (lone t) ∷ fs) (code "}" ∷ code "{" ∷ end) ≡ closing_paren (lone t) ++ code "/" ∷ below =
    rw (ahead-closed b n u e r) (ap (λ (l : List ℕ). closing_paren (lone t) ++ code "/" ∷ (opening_paren (lone u) ++ l)) (den (denominator (lone u) ∷ fs) (code "}" ∷ r))) in
    rw (stacked (final_style b) n t u d)
    (simp append_assoc
    (rw (ahead-closed b n t d (code "{" ∷ end), operand-parts (lone t) (text t) (code "/" ∷ (operand (lone u) (text u) ++ unlatex 0 fs r)), operand-parts (lone u) (text u) (unlatex 0 fs r))
    (ap (λ (l : List ℕ). opening_paren (lone t) ++ l) (num (numerator (lone t) ∷ fs) (code "}" ∷ code "{" ∷ end) ∙ ap (λ (l : List ℕ). text t ++ l) denominator-read))))

reads-row : (b : Bool) (n : ℕ) (t : Tree) (j : Join) (u : Tree) → Reads b n t → Reads b n u → Reads b n (row t j u)
unfolding write
reads-row b n t j u left right fs r =
    simp append_assoc
    (left fs (join_text j ++ (write (final_style b) n u ++ r))
    ∙ ap (λ (l : List ℕ). text t ++ l) (reads-join j fs (write (final_style b) n u ++ r) ∙ ap (λ (l : List ℕ). join_text j ++ l) (right fs r)))

reads-atom : (b : Bool) (n : ℕ) (a : Atom) (l h : TreeScript) → ReadsScript b n (code "_") l → ReadsScript b n (code "^") h → Reads b n (atom a l h)
unfolding write
reads-atom b n a l h low high fs r =
    let raised : List ℕ = write_script (final_style b) n (bytes "^") true h ++ r in
    simp append_assoc
    (copy-atom a fs (write_script (final_style b) n (bytes "_") true l ++ raised)
    ∙ ap (λ (x : List ℕ). atom_writing 0 a ++ x) (low fs raised ∙ ap (λ (x : List ℕ). write_script typst_style 0 (bytes "_") false l ++ x) (high fs r)))

-- the sign of a script is copied
abbrev Signs : ℕ → Type 0
Signs m = (fs : List Frame) (r : List ℕ) → unlatex 0 fs (m ∷ r) ≡ m ∷ unlatex 0 fs r

low-sign : Signs (code "_")
unfolding unlatex
low-sign fs r = refl

high-sign : Signs (code "^")
unfolding unlatex
high-sign fs r = refl

reads-bare : (b : Bool) (n m : ℕ) → ReadsScript b n m bare
unfolding write_script
reads-bare b n m fs r = refl

reads-symbol : (b : Bool) (n m : ℕ) → Signs m → (c : ℕ) (e : alnum c ≡ true) → ReadsScript b n m (symbol c e)
unfolding write_script
reads-symbol b n m signs c e fs r = signs fs (c ∷ r) ∙ ap {B = List ℕ} (λ l. m ∷ l) (copy-one c e fs r)

reads-inner : (b : Bool) (n m : ℕ) → Signs m → (t : Tree) → Reads false n t → ReadsScript b n m (inner t)
unfolding write_script unlatex
reads-inner b n m signs t reads fs r =
    simp append_assoc (signs fs (code "{" ∷ (write (final_style false) n t ++ code "}" ∷ r)) ∙ ap {B = List ℕ} (λ l. m ∷ code "(" ∷ l) (reads (script ∷ fs) (code "}" ∷ r)))

mutual
  unfolding write

  reads-tree : (b : Bool) (n : ℕ) (t : Tree) → height t ≤ n → Reads b n t
  reads-tree b n (atom a l h) d =
      reads-atom b n a l h (reads-script b n (code "_") low-sign l (omega arith)) (reads-script b n (code "^") high-sign h (omega arith))
  reads-tree b zero (fraction t u) d = absurd (omega arith)
  reads-tree b (suc n) (fraction t u) d =
      reads-fraction b n t u (omega arith) (omega arith) (reads-tree b n t (omega arith)) (reads-tree b n u (omega arith))
  reads-tree b n (group t) d = λ fs r. reads-parens (b && not (slashless t)) b n t (reads-tree b n t d) fs r ∙ simp append_assoc
  reads-tree b n (row t j u) d = reads-row b n t j u (reads-tree b n t (omega arith)) (reads-tree b n u (omega arith))

  reads-script : (b : Bool) (n m : ℕ) → Signs m → (c : TreeScript) → height_script c ≤ n → ReadsScript b n m c
  reads-script b n m signs bare d = reads-bare b n m
  reads-script b n m signs (symbol c e) d = reads-symbol b n m signs c e
  reads-script b n m signs (inner t) d = reads-inner b n m signs t (reads-tree false n t d)

-- the formula from its LaTeX
pub unlatex-latex : (b : Bool) (t : Tree) → unlatex 0 [] (tree_latex b t) ≡ text t
unfolding unlatex
unlatex-latex b t = ap (unlatex 0 []) (sym (append-nil (tree_latex b t))) ∙ reads-tree b (height t) t (le_refl (height t)) [] [] ∙ append-nil (text t)

-- two plain formulas that print alike, each sized or not, are one
pub latex-injective : (b c : Bool) (t u : Tree) → tree_latex b t ≡ tree_latex c u → text t ≡ text u
latex-injective b c t u e = sym (unlatex-latex b t) ∙ ap (unlatex 0 []) e ∙ unlatex-latex c u
