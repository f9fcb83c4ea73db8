-- The tree of a sum is written as the grammar says: as typed, and in LaTeX.
use Rattle.std.specs.Prelude.{◌≡◌, refl, Bool, true, false, not, ◌&&◌, List, ◌++◌, ℕ, zero, suc, ◌≤◌, max}
use Rattle.std.proofs.Common.{sym, ap, ap₂, ◌∙◌, append-nil, append_assoc, le_refl, arith, le-ltb}
use Rattle.std.proofs.lemmas.Bool.{not-true}
use Rattle.spec.specs.Symbols.{bytes}
use Rattle.spec.specs.Finish.{frac_bit}
use Rattle.spec.specs.Grammar
use Rattle.spec.specs.Grammar.{Atom, variable, greek, number, Sum, product, plus, minus, Product, factor, beside, Factor, scripted, fraction, group, Operand, atom, enclosed, Script, bare, symbol, inner}
use Rattle.spec.specs.Laws.Booleans.{and_left, and_right}
use Rattle.plain_printing.specs.Tree.{Tree, Join, Style, atom_writing, join_text, operand, parens, lone, slashless, height, height_script, typst_style, final_style, write, write_script, stacked, text, tree_latex}
use Rattle.plain_printing.proofs.TreeOf.{tree_of, product_tree, onto, factor_tree, operand_tree, script_tree, slashless-tree, lone-tree}

-- the factors of a product before a row
write-onto : (s : Style) (n : ℕ) (p : Product) (j : Join) (t : Tree) → write s n (onto p j t) ≡ write s n (product_tree p) ++ join_text j ++ write s n t
unfolding write
write-onto s n (factor f) j t = sym (append_assoc (write s n (factor_tree f)) (join_text j) (write s n t))
write-onto s n (beside f p) j t = rw (write-onto s n p j t) (simp append_assoc)

-- ---- as typed
typed-atom : (a : Atom) → atom_writing 0 a ≡ Grammar.atom_text a
typed-atom (variable c e) = refl
typed-atom (greek i e) = rw (le-ltb i 0 (omega arith))
typed-atom (number ds e b) = refl

typed-operand : (s : Sum) → Grammar.proper_operand (enclosed s) ≡ true → {w : List ℕ} → text (tree_of s) ≡ w → operand (lone (tree_of s)) (text (tree_of s)) ≡ Grammar.parenthesized w
typed-operand s h e =
    let unlone : lone (tree_of s) ≡ false = lone-tree s ∙ not-true (Grammar.lone_atom s) (and_left (not (Grammar.lone_atom s)) (Grammar.proper s) h) in
    rw (unlone, e)

mutual
  unfolding write write_script Grammar.text Grammar.product_text Grammar.factor_text Grammar.operand_text Grammar.script_text

  pub text-tree : (s : Sum) → Grammar.proper s ≡ true → text (tree_of s) ≡ Grammar.text s
  text-tree (product p) h = text-product p h
  text-tree (plus p s) h =
      write-onto typst_style 0 p Join.plus (tree_of s)
      ∙ ap₂ (λ (x y : List ℕ). x ++ bytes " + " ++ y) (text-product p (and_left (Grammar.proper_product p) (Grammar.proper s) h))
      (text-tree s (and_right (Grammar.proper_product p) (Grammar.proper s) h))
  text-tree (minus p s) h =
      write-onto typst_style 0 p Join.minus (tree_of s)
      ∙ ap₂ (λ (x y : List ℕ). x ++ bytes " - " ++ y) (text-product p (and_left (Grammar.proper_product p) (Grammar.proper s) h))
      (text-tree s (and_right (Grammar.proper_product p) (Grammar.proper s) h))

  text-product : (p : Product) → Grammar.proper_product p ≡ true → text (product_tree p) ≡ Grammar.product_text p
  text-product (factor f) h = text-factor f h
  text-product (beside f p) h =
      ap₂ (λ (x y : List ℕ). x ++ (bytes " " ++ y)) (text-factor f (and_left (Grammar.proper_factor f) (Grammar.proper_product p) h))
      (text-product p (and_right (Grammar.proper_factor f) (Grammar.proper_product p) h))
      ∙ sym (append_assoc (Grammar.factor_text f) (bytes " ") (Grammar.product_text p))

  text-factor : (f : Factor) → Grammar.proper_factor f ≡ true → text (factor_tree f) ≡ Grammar.factor_text f
  text-factor (scripted a l h) k =
      rw (
        typed-atom a,
        text-script (bytes "_") l (and_left (Grammar.proper_script l) (Grammar.proper_script h) k),
        text-script (bytes "^") h (and_right (Grammar.proper_script l) (Grammar.proper_script h) k),
      )
      (sym (append_assoc (Grammar.atom_text a) (Grammar.script_text (bytes "_") l) (Grammar.script_text (bytes "^") h)))
  text-factor (fraction n d) k =
      ap₂ (λ (x y : List ℕ). x ++ (bytes "/" ++ y)) (text-operand n (and_left (Grammar.proper_operand n) (Grammar.proper_operand d) k))
      (text-operand d (and_right (Grammar.proper_operand n) (Grammar.proper_operand d) k))
      ∙ sym (append_assoc (Grammar.operand_text n) (bytes "/") (Grammar.operand_text d))
  text-factor (group s) k = ap (λ (x : List ℕ). bytes "(" ++ (x ++ bytes ")")) (text-tree s k)

  text-operand : (o : Operand) → Grammar.proper_operand o ≡ true → operand (lone (operand_tree o)) (text (operand_tree o)) ≡ Grammar.operand_text o
  text-operand (atom a) k = append-nil (atom_writing 0 a) ∙ typed-atom a
  text-operand (enclosed s) k = typed-operand s k (text-tree s (and_right (not (Grammar.lone_atom s)) (Grammar.proper s) k))

  text-script : (sign : List ℕ) (c : Script) → Grammar.proper_script c ≡ true → write_script typst_style 0 sign false (script_tree c) ≡ Grammar.script_text sign c
  text-script sign bare k = refl
  text-script sign (symbol c e) k = refl
  text-script sign (inner s) k = ap (λ (x : List ℕ). sign ++ (bytes "(" ++ (x ++ bytes ")"))) (text-tree s (and_right (Grammar.scriptless s) (Grammar.proper s) k))

-- ---- in LaTeX
latex-atom : (a : Atom) → atom_writing 30 a ≡ Grammar.atom_latex a
latex-atom (variable c e) = refl
latex-atom (greek i e) = rw e
latex-atom (number ds e b) = refl

onto-height : (p : Product) (j : Join) (t : Tree) → height (onto p j t) ≡ max (height (product_tree p)) (height t)
onto-height (factor f) j t = refl
onto-height (beside f p) j t = let later : height (onto p j t) ≡ max (height (product_tree p)) (height t) = onto-height p j t in omega arith

latex-fraction : (b : Bool) (n : ℕ) (t u : Tree) (x y : List ℕ) → suc (max (height t) (height u)) ≤ n → ((m : ℕ) → height t ≤ m → write (final_style b) m t ≡ x)
    → ((m : ℕ) → height u ≤ m → write (final_style b) m u ≡ y) → write (final_style b) n (Tree.fraction t u) ≡ bytes "\\frac{" ++ x ++ bytes "}{" ++ y ++ bytes "}"
latex-fraction b zero t u x y d p q = absurd (omega arith)
latex-fraction b (suc n) t u x y d p q = rw (stacked (final_style b) n t u (omega arith), p n (omega arith), q n (omega arith)) (simp append_assoc)

latex-parens : (b c : Bool) (x : List ℕ) → b ≡ c → parens b x ≡ Grammar.parens_latex c x
latex-parens true c x e = rw (← e)
latex-parens false c x e = rw (← e)

mutual
  unfolding write write_script Grammar.sum_latex Grammar.product_latex Grammar.factor_latex Grammar.operand_latex Grammar.script_latex

  latex-sum : (s : Sum) (b : Bool) (n : ℕ) → Grammar.proper s ≡ true → height (tree_of s) ≤ n → write (final_style b) n (tree_of s) ≡ Grammar.sum_latex b s
  latex-sum (product p) b n h d = latex-product p b n h d
  latex-sum (plus p s) b n h d =
      let deepest = onto-height p Join.plus (tree_of s) in
      write-onto (final_style b) n p Join.plus (tree_of s)
      ∙ ap₂ (λ (x y : List ℕ). x ++ bytes " + " ++ y) (latex-product p b n (and_left (Grammar.proper_product p) (Grammar.proper s) h) (omega arith))
      (latex-sum s b n (and_right (Grammar.proper_product p) (Grammar.proper s) h) (omega arith))
  latex-sum (minus p s) b n h d =
      let deepest = onto-height p Join.minus (tree_of s) in
      write-onto (final_style b) n p Join.minus (tree_of s)
      ∙ ap₂ (λ (x y : List ℕ). x ++ bytes " - " ++ y) (latex-product p b n (and_left (Grammar.proper_product p) (Grammar.proper s) h) (omega arith))
      (latex-sum s b n (and_right (Grammar.proper_product p) (Grammar.proper s) h) (omega arith))

  latex-product : (p : Product) (b : Bool) (n : ℕ) → Grammar.proper_product p ≡ true → height (product_tree p) ≤ n → write (final_style b) n (product_tree p) ≡ Grammar.product_latex b p
  latex-product (factor f) b n h d = latex-factor f b n h d
  latex-product (beside f p) b n h d =
      ap₂ (λ (x y : List ℕ). x ++ (bytes " " ++ y)) (latex-factor f b n (and_left (Grammar.proper_factor f) (Grammar.proper_product p) h) (omega arith))
      (latex-product p b n (and_right (Grammar.proper_factor f) (Grammar.proper_product p) h) (omega arith))
      ∙ sym (append_assoc (Grammar.factor_latex b f) (bytes " ") (Grammar.product_latex b p))

  latex-factor : (f : Factor) (b : Bool) (n : ℕ) → Grammar.proper_factor f ≡ true → height (factor_tree f) ≤ n → write (final_style b) n (factor_tree f) ≡ Grammar.factor_latex b f
  latex-factor (scripted a l h) b n k d =
      rw (
        latex-atom a,
        latex-script l b n (bytes "_") (and_left (Grammar.proper_script l) (Grammar.proper_script h) k) (omega arith),
        latex-script h b n (bytes "^") (and_right (Grammar.proper_script l) (Grammar.proper_script h) k) (omega arith),
      )
      (sym (append_assoc (Grammar.atom_latex a) (Grammar.script_latex (bytes "_") l) (Grammar.script_latex (bytes "^") h)))
  latex-factor (fraction n₁ d₁) b n k d =
      latex-fraction b n (operand_tree n₁) (operand_tree d₁) (Grammar.operand_latex b n₁) (Grammar.operand_latex b d₁) d
      (λ m z. latex-operand n₁ b m (and_left (Grammar.proper_operand n₁) (Grammar.proper_operand d₁) k) z)
      (λ m z. latex-operand d₁ b m (and_right (Grammar.proper_operand n₁) (Grammar.proper_operand d₁) k) z)
  latex-factor (group s) b n k d =
      latex-parens (b && not (slashless (tree_of s))) (b && not (Grammar.slashless s)) (write (final_style b) n (tree_of s)) (ap (λ c. b && not c) (slashless-tree s))
      ∙ ap (Grammar.parens_latex (b && not (Grammar.slashless s))) (latex-sum s b n k d)

  latex-operand : (o : Operand) (b : Bool) (n : ℕ) → Grammar.proper_operand o ≡ true → height (operand_tree o) ≤ n → write (final_style b) n (operand_tree o) ≡ Grammar.operand_latex b o
  latex-operand (atom a) b n k d = append-nil (atom_writing 30 a) ∙ latex-atom a
  latex-operand (enclosed s) b n k d = latex-sum s b n (and_right (not (Grammar.lone_atom s)) (Grammar.proper s) k) d

  latex-script : (c : Script) (b : Bool) (n : ℕ) (sign : List ℕ) → Grammar.proper_script c ≡ true → height_script (script_tree c) ≤ n
      → write_script (final_style b) n sign true (script_tree c) ≡ Grammar.script_latex sign c
  latex-script bare b n sign k d = refl
  latex-script (symbol c e) b n sign k d = refl
  latex-script (inner s) b n sign k d = rw (latex-sum s false n (and_right (Grammar.scriptless s) (Grammar.proper s) k) d) (simp append_assoc)

pub latex-tree : (field : ℕ) (s : Sum) → Grammar.proper s ≡ true → tree_latex (frac_bit field) (tree_of s) ≡ Grammar.latex field s
unfolding Grammar.latex
latex-tree field s h = latex-sum s (frac_bit field) (height (tree_of s)) h (le_refl (height (tree_of s)))
