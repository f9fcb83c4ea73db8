-- The tree of a sum of the grammar: products and sums become one row of factors.
use Rattle.std.specs.Prelude.{◌≡◌, refl, true, false, not, ◌&&◌, ℕ, suc, max}
use Rattle.std.proofs.Common.{ap, ap₂, ◌∙◌, sym, arith}
use Rattle.std.proofs.Math.Bool.{and_assoc}
use Rattle.spec.specs.Grammar
use Rattle.spec.specs.Grammar.{Sum, product, plus, minus, Product, factor, beside, Factor, scripted, fraction, group, Operand, atom, enclosed, Script, bare, symbol, inner}
use Rattle.spec.specs.Laws.Booleans.{and_left, and_right}
use Rattle.plain_printing.specs.Tree.{Tree, TreeScript, Join, slashless, slashless_script, scriptless, scriptless_script, PlainTree, PlainScript, lone, height, height_script}

-- `onto` puts the factors of a product before a row
abbrev mutual
  pub tree_of : Sum → Tree
  tree_of (product p) = product_tree p
  tree_of (plus p s) = onto p Join.plus (tree_of s)
  tree_of (minus p s) = onto p Join.minus (tree_of s)

  pub product_tree : Product → Tree
  product_tree (factor f) = factor_tree f
  product_tree (beside f p) = Tree.row (factor_tree f) Join.beside (product_tree p)

  pub onto : Product → Join → Tree → Tree
  onto (factor f) j t = Tree.row (factor_tree f) j t
  onto (beside f p) j t = Tree.row (factor_tree f) Join.beside (onto p j t)

  pub factor_tree : Factor → Tree
  factor_tree (scripted a l h) = Tree.atom a (script_tree l) (script_tree h)
  factor_tree (fraction n d) = Tree.fraction (operand_tree n) (operand_tree d)
  factor_tree (group s) = Tree.group (tree_of s)

  pub operand_tree : Operand → Tree
  operand_tree (atom a) = Tree.atom a TreeScript.bare TreeScript.bare
  operand_tree (enclosed s) = tree_of s

  pub script_tree : Script → TreeScript
  script_tree bare = TreeScript.bare
  script_tree (symbol c e) = TreeScript.symbol c e
  script_tree (inner s) = TreeScript.inner (tree_of s)

-- ---- no slash
mutual
  pub slashless-tree : (s : Sum) → slashless (tree_of s) ≡ Grammar.slashless s
  slashless-tree (product p) = slashless-product p
  slashless-tree (plus p s) = slashless-onto p Join.plus (tree_of s) ∙ ap (λ b. Grammar.slashless_product p && b) (slashless-tree s)
  slashless-tree (minus p s) = slashless-onto p Join.minus (tree_of s) ∙ ap (λ b. Grammar.slashless_product p && b) (slashless-tree s)

  slashless-product : (p : Product) → slashless (product_tree p) ≡ Grammar.slashless_product p
  slashless-product (factor f) = slashless-factor f
  slashless-product (beside f p) = ap₂ ◌&&◌ (slashless-factor f) (slashless-product p)

  slashless-onto : (p : Product) (j : Join) (t : Tree) → slashless (onto p j t) ≡ Grammar.slashless_product p && slashless t
  slashless-onto (factor f) j t = ap (λ b. b && slashless t) (slashless-factor f)
  slashless-onto (beside f p) j t = ap₂ ◌&&◌ (slashless-factor f) (slashless-onto p j t) ∙ sym (and_assoc (Grammar.slashless_factor f) (Grammar.slashless_product p) (slashless t))

  slashless-factor : (f : Factor) → slashless (factor_tree f) ≡ Grammar.slashless_factor f
  slashless-factor (scripted a l h) = ap₂ ◌&&◌ (slashless-script l) (slashless-script h)
  slashless-factor (fraction n d) = refl
  slashless-factor (group s) = slashless-tree s

  slashless-script : (c : Script) → slashless_script (script_tree c) ≡ Grammar.slashless_script c
  slashless-script bare = refl
  slashless-script (symbol c e) = refl
  slashless-script (inner s) = slashless-tree s

-- ---- no script
script-bare : (c : Script) → scriptless_script (script_tree c) ≡ Grammar.is_bare c
script-bare bare = refl
script-bare (symbol c e) = refl
script-bare (inner s) = refl

mutual
  scriptless-tree : (s : Sum) → scriptless (tree_of s) ≡ Grammar.scriptless s
  scriptless-tree (product p) = scriptless-product p
  scriptless-tree (plus p s) = scriptless-onto p Join.plus (tree_of s) ∙ ap (λ b. Grammar.scriptless_product p && b) (scriptless-tree s)
  scriptless-tree (minus p s) = scriptless-onto p Join.minus (tree_of s) ∙ ap (λ b. Grammar.scriptless_product p && b) (scriptless-tree s)

  scriptless-product : (p : Product) → scriptless (product_tree p) ≡ Grammar.scriptless_product p
  scriptless-product (factor f) = scriptless-factor f
  scriptless-product (beside f p) = ap₂ ◌&&◌ (scriptless-factor f) (scriptless-product p)

  scriptless-onto : (p : Product) (j : Join) (t : Tree) → scriptless (onto p j t) ≡ Grammar.scriptless_product p && scriptless t
  scriptless-onto (factor f) j t = ap (λ b. b && scriptless t) (scriptless-factor f)
  scriptless-onto (beside f p) j t = ap₂ ◌&&◌ (scriptless-factor f) (scriptless-onto p j t) ∙ sym (and_assoc (Grammar.scriptless_factor f) (Grammar.scriptless_product p) (scriptless t))

  scriptless-factor : (f : Factor) → scriptless (factor_tree f) ≡ Grammar.scriptless_factor f
  scriptless-factor (scripted a l h) = ap₂ ◌&&◌ (script-bare l) (script-bare h)
  scriptless-factor (fraction n d) = ap₂ ◌&&◌ (scriptless-operand n) (scriptless-operand d)
  scriptless-factor (group s) = scriptless-tree s

  scriptless-operand : (o : Operand) → scriptless (operand_tree o) ≡ Grammar.scriptless_operand o
  scriptless-operand (atom a) = refl
  scriptless-operand (enclosed s) = scriptless-tree s

-- ---- a lone atom
lone-factor : (f : Factor) → lone (factor_tree f) ≡ Grammar.lone_factor f
lone-factor (scripted a bare bare) = refl
lone-factor (scripted a bare (symbol c e)) = refl
lone-factor (scripted a bare (inner s)) = refl
lone-factor (scripted a (symbol c e) h) = refl
lone-factor (scripted a (inner s) h) = refl
lone-factor (fraction n d) = refl
lone-factor (group s) = refl

lone-product : (p : Product) → lone (product_tree p) ≡ Grammar.lone_product p
lone-product (factor f) = lone-factor f
lone-product (beside f p) = refl

lone-onto : (p : Product) (j : Join) (t : Tree) → lone (onto p j t) ≡ false
lone-onto (factor f) j t = refl
lone-onto (beside f p) j t = refl

pub lone-tree : (s : Sum) → lone (tree_of s) ≡ Grammar.lone_atom s
lone-tree (product p) = lone-product p
lone-tree (plus p s) = lone-onto p Join.plus (tree_of s)
lone-tree (minus p s) = lone-onto p Join.minus (tree_of s)

-- ---- height
max_assoc : (a b c : ℕ) → max a (max b c) ≡ max (max a b) c
max_assoc a b c = omega arith

mutual
  unfolding Grammar.height Grammar.product_height Grammar.factor_height Grammar.operand_height Grammar.script_height

  pub height-tree : (s : Sum) → height (tree_of s) ≡ Grammar.height s
  height-tree (product p) = height-product p
  height-tree (plus p s) = height-onto p Join.plus (tree_of s) ∙ ap (max (Grammar.product_height p)) (height-tree s)
  height-tree (minus p s) = height-onto p Join.minus (tree_of s) ∙ ap (max (Grammar.product_height p)) (height-tree s)

  height-product : (p : Product) → height (product_tree p) ≡ Grammar.product_height p
  height-product (factor f) = height-factor f
  height-product (beside f p) = ap₂ max (height-factor f) (height-product p)

  height-onto : (p : Product) (j : Join) (t : Tree) → height (onto p j t) ≡ max (Grammar.product_height p) (height t)
  height-onto (factor f) j t = ap (λ d. max d (height t)) (height-factor f)
  height-onto (beside f p) j t = ap₂ max (height-factor f) (height-onto p j t) ∙ max_assoc (Grammar.factor_height f) (Grammar.product_height p) (height t)

  height-factor : (f : Factor) → height (factor_tree f) ≡ Grammar.factor_height f
  height-factor (scripted a l h) = ap₂ max (height-script l) (height-script h)
  height-factor (fraction n d) = ap suc (ap₂ max (height-operand n) (height-operand d))
  height-factor (group s) = height-tree s

  height-operand : (o : Operand) → height (operand_tree o) ≡ Grammar.operand_height o
  height-operand (atom a) = refl
  height-operand (enclosed s) = height-tree s

  height-script : (c : Script) → height_script (script_tree c) ≡ Grammar.script_height c
  height-script bare = refl
  height-script (symbol c e) = refl
  height-script (inner s) = height-tree s

-- ---- what the rules ask besides
mutual
  pub plain-tree : (s : Sum) → Grammar.proper s ≡ true → PlainTree (tree_of s)
  plain-tree (product p) h = plain-product p h
  plain-tree (plus p s) h = plain-onto p Join.plus (tree_of s) (and_left (Grammar.proper_product p) (Grammar.proper s) h) (plain-tree s (and_right (Grammar.proper_product p) (Grammar.proper s) h))
  plain-tree (minus p s) h = plain-onto p Join.minus (tree_of s) (and_left (Grammar.proper_product p) (Grammar.proper s) h) (plain-tree s (and_right (Grammar.proper_product p) (Grammar.proper s) h))

  plain-product : (p : Product) → Grammar.proper_product p ≡ true → PlainTree (product_tree p)
  plain-product (factor f) h = plain-factor f h
  plain-product (beside f p) h =
      (plain-factor f (and_left (Grammar.proper_factor f) (Grammar.proper_product p) h), plain-product p (and_right (Grammar.proper_factor f) (Grammar.proper_product p) h))

  plain-onto : (p : Product) (j : Join) (t : Tree) → Grammar.proper_product p ≡ true → PlainTree t → PlainTree (onto p j t)
  plain-onto (factor f) j t h k = (plain-factor f h, k)
  plain-onto (beside f p) j t h k =
      (plain-factor f (and_left (Grammar.proper_factor f) (Grammar.proper_product p) h), plain-onto p j t (and_right (Grammar.proper_factor f) (Grammar.proper_product p) h) k)

  plain-factor : (f : Factor) → Grammar.proper_factor f ≡ true → PlainTree (factor_tree f)
  plain-factor (scripted a l h) k =
      (plain-script l (and_left (Grammar.proper_script l) (Grammar.proper_script h) k), plain-script h (and_right (Grammar.proper_script l) (Grammar.proper_script h) k))
  plain-factor (fraction n d) k =
      (plain-operand n (and_left (Grammar.proper_operand n) (Grammar.proper_operand d) k), plain-operand d (and_right (Grammar.proper_operand n) (Grammar.proper_operand d) k))
  plain-factor (group s) k = plain-tree s k

  plain-operand : (o : Operand) → Grammar.proper_operand o ≡ true → PlainTree (operand_tree o)
  plain-operand (atom a) k = (tt, tt)
  plain-operand (enclosed s) k = plain-tree s (and_right (not (Grammar.lone_atom s)) (Grammar.proper s) k)

  plain-script : (c : Script) → Grammar.proper_script c ≡ true → PlainScript (script_tree c)
  plain-script bare k = tt
  plain-script (symbol c e) k = tt
  plain-script (inner s) k = (scriptless-tree s ∙ and_left (Grammar.scriptless s) (Grammar.proper s) k, plain-tree s (and_right (Grammar.scriptless s) (Grammar.proper s) k))
