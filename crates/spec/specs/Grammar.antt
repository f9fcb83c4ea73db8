-- Plain formulas: document 01's grammar, rule by rule, and what each rule is typed as, prints and counts. That a numerator may hold slashes is document
-- 02's A4, and that the LaTeX goes by the tall field its A13. Assumes nothing.
--     Sum, Product, Factor, Operand, Script, Atom    the rules
--     proper                                         what the rules ask besides
--     text, latex, atoms                             the formula, its LaTeX, and the count that the plain check gives
--     Plain                                          a text that is one sum by these rules
-- Each function has a clause for each way to build a thing, and one function for each rule, those of sums first.
use Rattle.std.specs.Prelude.{◌≡◌, Bool, true, false, not, cond, ◌&&◌, List, [], ◌∷◌, ◌++◌, ℕ, suc, ◌+◌, ◌≤◌, max, ltb, length, get_or}
use Rattle.spec.specs.Symbols.{bytes, letter, digit, alnum, all}
use Rattle.spec.specs.Rows.{Row, greek_letters}
use Rattle.spec.specs.Finish.{frac_bit}
use Rattle.spec.specs.Pipeline.{most_formula}

-- ---- atoms: one ASCII letter, one of the thirty Greek names, or 1 to 9 digits
abbrev pub typsts : List Row → List (List ℕ)
typsts [] = []
typsts (r ∷ rs) = r.typst ∷ typsts rs

abbrev pub greek_names : List (List ℕ)
greek_names = typsts greek_letters

unfoldable pub greek_name : ℕ → List ℕ
greek_name row = get_or greek_names row []

pub data Atom : Type 0 where
  variable : (c : ℕ) → letter c ≡ true → Atom
  greek : (row : ℕ) → ltb row 30 ≡ true → Atom
  number : (ds : List ℕ) → all digit ds ≡ true → ltb 0 (length ds) && ltb (length ds) 10 ≡ true → Atom

-- ---- the rules
-- a sum is products joined by ` + ` or ` - `; a product is factors joined by one space
-- a factor is a scripted atom, a fraction, or a sum in parentheses; a scripted atom has a script of `_` and one of `^`, each of them optional
-- an operand of a fraction is an atom, or a sum in parentheses
-- a script is one letter or digit, or a sum in parentheses
mutual
  pub data Sum : Type 0 where
    product : Product → Sum
    plus minus : Product → Sum → Sum

  pub data Product : Type 0 where
    factor : Factor → Product
    beside : Factor → Product → Product

  pub data Factor : Type 0 where
    scripted : Atom → Script → Script → Factor
    fraction : Operand → Operand → Factor
    group : Sum → Factor

  pub data Operand : Type 0 where
    atom : Atom → Operand
    enclosed : Sum → Operand

  pub data Script : Type 0 where
    bare : Script
    symbol : (c : ℕ) → alnum c ≡ true → Script
    inner : Sum → Script

-- ---- what the rules ask besides
-- no slash, so no fraction
abbrev mutual
  pub slashless : Sum → Bool
  slashless (product p) = slashless_product p
  slashless (plus p s) = slashless_product p && slashless s
  slashless (minus p s) = slashless_product p && slashless s

  pub slashless_product : Product → Bool
  slashless_product (factor f) = slashless_factor f
  slashless_product (beside f p) = slashless_factor f && slashless_product p

  pub slashless_factor : Factor → Bool
  slashless_factor (scripted a l h) = slashless_script l && slashless_script h
  slashless_factor (fraction n d) = false
  slashless_factor (group s) = slashless s

  pub slashless_script : Script → Bool
  slashless_script bare = true
  slashless_script (symbol c e) = true
  slashless_script (inner s) = slashless s

-- no script
abbrev mutual
  pub scriptless : Sum → Bool
  scriptless (product p) = scriptless_product p
  scriptless (plus p s) = scriptless_product p && scriptless s
  scriptless (minus p s) = scriptless_product p && scriptless s

  pub scriptless_product : Product → Bool
  scriptless_product (factor f) = scriptless_factor f
  scriptless_product (beside f p) = scriptless_factor f && scriptless_product p

  pub scriptless_factor : Factor → Bool
  scriptless_factor (scripted a l h) = is_bare l && is_bare h
  scriptless_factor (fraction n d) = scriptless_operand n && scriptless_operand d
  scriptless_factor (group s) = scriptless s

  pub scriptless_operand : Operand → Bool
  scriptless_operand (atom a) = true
  scriptless_operand (enclosed s) = scriptless s

  pub is_bare : Script → Bool
  is_bare bare = true
  is_bare (symbol c e) = false
  is_bare (inner s) = false

-- a lone atom
abbrev pub lone_factor : Factor → Bool
lone_factor (scripted a l h) = is_bare l && is_bare h
lone_factor (fraction n d) = false
lone_factor (group s) = false

abbrev pub lone_product : Product → Bool
lone_product (factor f) = lone_factor f
lone_product (beside f p) = false

abbrev pub lone_atom : Sum → Bool
lone_atom (product p) = lone_product p
lone_atom (plus p s) = false
lone_atom (minus p s) = false

-- an operand's sum isn't a lone atom; in a script no script occurs
abbrev mutual
  pub proper : Sum → Bool
  proper (product p) = proper_product p
  proper (plus p s) = proper_product p && proper s
  proper (minus p s) = proper_product p && proper s

  pub proper_product : Product → Bool
  proper_product (factor f) = proper_factor f
  proper_product (beside f p) = proper_factor f && proper_product p

  pub proper_factor : Factor → Bool
  proper_factor (scripted a l h) = proper_script l && proper_script h
  proper_factor (fraction n d) = proper_operand n && proper_operand d
  proper_factor (group s) = proper s

  pub proper_operand : Operand → Bool
  proper_operand (atom a) = true
  proper_operand (enclosed s) = not (lone_atom s) && proper s

  pub proper_script : Script → Bool
  proper_script bare = true
  proper_script (symbol c e) = true
  proper_script (inner s) = scriptless s && proper s

-- ---- the text
abbrev pub atom_text : Atom → List ℕ
atom_text (variable c e) = c ∷ []
atom_text (greek row e) = greek_name row
atom_text (number ds e b) = ds

abbrev pub parenthesized : List ℕ → List ℕ
parenthesized s = bytes "(" ++ s ++ bytes ")"

unfoldable mutual
  pub text : Sum → List ℕ
  text (product p) = product_text p
  text (plus p s) = product_text p ++ bytes " + " ++ text s
  text (minus p s) = product_text p ++ bytes " - " ++ text s

  pub product_text : Product → List ℕ
  product_text (factor f) = factor_text f
  product_text (beside f p) = factor_text f ++ bytes " " ++ product_text p

  pub factor_text : Factor → List ℕ
  factor_text (scripted a l h) = atom_text a ++ script_text (bytes "_") l ++ script_text (bytes "^") h
  factor_text (fraction n d) = operand_text n ++ bytes "/" ++ operand_text d
  factor_text (group s) = parenthesized (text s)

  pub operand_text : Operand → List ℕ
  operand_text (atom a) = atom_text a
  operand_text (enclosed s) = parenthesized (text s)

  pub script_text : List ℕ → Script → List ℕ
  script_text sign bare = []
  script_text sign (symbol c e) = sign ++ c ∷ []
  script_text sign (inner s) = sign ++ parenthesized (text s)

-- ---- the LaTeX
-- atoms as they are, Greek with a backslash
abbrev pub atom_latex : Atom → List ℕ
atom_latex (variable c e) = c ∷ []
atom_latex (greek row e) = bytes "\\" ++ greek_name row
atom_latex (number ds e b) = ds

-- sized where a fraction lies inside
abbrev pub parens_latex : Bool → List ℕ → List ℕ
parens_latex sized s = cond sized (bytes "\\left(" ++ s ++ bytes "\\right)") (parenthesized s)

-- `sizing` says that parentheses with a fraction in them are sized: where the tall field has the bit of `\frac`, and no script encloses the thing. A fraction
-- has no operand parentheses; script groups are in braces.
unfoldable mutual
  pub sum_latex : Bool → Sum → List ℕ
  sum_latex sizing (product p) = product_latex sizing p
  sum_latex sizing (plus p s) = product_latex sizing p ++ bytes " + " ++ sum_latex sizing s
  sum_latex sizing (minus p s) = product_latex sizing p ++ bytes " - " ++ sum_latex sizing s

  pub product_latex : Bool → Product → List ℕ
  product_latex sizing (factor f) = factor_latex sizing f
  product_latex sizing (beside f p) = factor_latex sizing f ++ bytes " " ++ product_latex sizing p

  pub factor_latex : Bool → Factor → List ℕ
  factor_latex sizing (scripted a l h) = atom_latex a ++ script_latex (bytes "_") l ++ script_latex (bytes "^") h
  factor_latex sizing (fraction n d) = bytes "\\frac{" ++ operand_latex sizing n ++ bytes "}{" ++ operand_latex sizing d ++ bytes "}"
  factor_latex sizing (group s) = parens_latex (sizing && not (slashless s)) (sum_latex sizing s)

  pub operand_latex : Bool → Operand → List ℕ
  operand_latex sizing (atom a) = atom_latex a
  operand_latex sizing (enclosed s) = sum_latex sizing s

  pub script_latex : List ℕ → Script → List ℕ
  script_latex sign bare = []
  script_latex sign (symbol c e) = sign ++ c ∷ []
  script_latex sign (inner s) = sign ++ bytes "{" ++ sum_latex false s ++ bytes "}"

-- under a tall field
unfoldable pub latex : ℕ → Sum → List ℕ
unfolding sum_latex
latex field s = sum_latex (frac_bit field) s

-- ---- the atom count: scripts of one symbol don't count
unfoldable mutual
  pub atoms : Sum → ℕ
  atoms (product p) = product_atoms p
  atoms (plus p s) = product_atoms p + atoms s
  atoms (minus p s) = product_atoms p + atoms s

  pub product_atoms : Product → ℕ
  product_atoms (factor f) = factor_atoms f
  product_atoms (beside f p) = factor_atoms f + product_atoms p

  pub factor_atoms : Factor → ℕ
  factor_atoms (scripted a l h) = 1 + (script_atoms l + script_atoms h)
  factor_atoms (fraction n d) = operand_atoms n + operand_atoms d
  factor_atoms (group s) = atoms s

  pub operand_atoms : Operand → ℕ
  operand_atoms (atom a) = 1
  operand_atoms (enclosed s) = atoms s

  pub script_atoms : Script → ℕ
  script_atoms bare = 0
  script_atoms (symbol c e) = 0
  script_atoms (inner s) = atoms s

-- ---- how many fractions stand one within another: so many rounds change the text
unfoldable mutual
  pub height : Sum → ℕ
  height (product p) = product_height p
  height (plus p s) = max (product_height p) (height s)
  height (minus p s) = max (product_height p) (height s)

  pub product_height : Product → ℕ
  product_height (factor f) = factor_height f
  product_height (beside f p) = max (factor_height f) (product_height p)

  pub factor_height : Factor → ℕ
  factor_height (scripted a l h) = max (script_height l) (script_height h)
  factor_height (fraction n d) = suc (max (operand_height n) (operand_height d))
  factor_height (group s) = height s

  pub operand_height : Operand → ℕ
  operand_height (atom a) = 0
  operand_height (enclosed s) = height s

  pub script_height : Script → ℕ
  script_height bare = 0
  script_height (symbol c e) = 0
  script_height (inner s) = height s

-- ---- a plain text: the whole of it is one sum by these rules, and it has at most 4,096 bytes
pub record Plain (s : List ℕ) : Type 0 where
  pub sum : Sum
  pub is-proper : proper sum ≡ true
  pub reads : text sum ≡ s
  pub short : length s ≤ most_formula
