-- What a reader counts of a tree, by the grammar's own functions, and how the part of a tree is made of its parts. Assumes nothing.
use Rattle.std.specs.Prelude.{◌≡◌, refl, Bool, true, false, not, ◌&&◌, List, [], ◌∷◌, ◌++◌, ℕ, length}
use Prim.Native.Char.{code}
use Rattle.std.proofs.Common.{arith, length-append}
use Rattle.std.proofs.lemmas.Bool.{not-true}
use Rattle.spec.specs.Symbols.{bytes, alnum}
use Rattle.spec.specs.Grammar.{Atom, Sum, product, Product, factor, beside, Factor, scripted, fraction, group, Operand, atom, enclosed, Script, bare, symbol, inner, scriptless, scriptless_product, scriptless_factor, scriptless_operand, is_bare, lone_atom, lone_product, lone_factor, proper, proper_product, proper_factor, proper_operand, atom_text, text, product_text, factor_text, operand_text, script_text, atoms, product_atoms, factor_atoms, operand_atoms, script_atoms}
use Rattle.spec.specs.Grammar
use Rattle.spec.specs.Laws.Booleans.{and_left, and_right, and_both, or-neither}
use Rattle.plain_parts.specs.declared.PlainPart.{PlainPart}
use Rattle.plain_parts.specs.Parts.{leaf, join, with_scripts, wrap, as_script, indivisible}

-- ---- a lone atom in parentheses
abbrev pub wrapped_factor : Factor → Bool
wrapped_factor (scripted a l h) = false
wrapped_factor (fraction n d) = false
wrapped_factor (group s) = lone_atom s

abbrev pub wrapped_product : Product → Bool
wrapped_product (factor f) = wrapped_factor f
wrapped_product (beside f p) = false

abbrev pub wrapped_atom : Sum → Bool
wrapped_atom (product p) = wrapped_product p
wrapped_atom (Grammar.plus p s) = false
wrapped_atom (Grammar.minus p s) = false

abbrev pub wrapped_operand : Operand → Bool
wrapped_operand (atom a) = false
wrapped_operand (enclosed s) = lone_atom s

abbrev pub lone_operand : Operand → Bool
lone_operand (atom a) = true
lone_operand (enclosed s) = false

-- ---- the part of a tree
abbrev pub sum_part : Sum → PlainPart
sum_part t = record { used = length (text t); atoms = atoms t; lone = lone_atom t; wrapped = wrapped_atom t; scriptless = scriptless t }

abbrev pub product_part : Product → PlainPart
product_part t =
    record { used = length (product_text t); atoms = product_atoms t; lone = lone_product t; wrapped = wrapped_product t; scriptless = scriptless_product t }

abbrev pub factor_part : Factor → PlainPart
factor_part t =
    record { used = length (factor_text t); atoms = factor_atoms t; lone = lone_factor t; wrapped = wrapped_factor t; scriptless = scriptless_factor t }

abbrev pub operand_part : Operand → PlainPart
operand_part t =
    record { used = length (operand_text t); atoms = operand_atoms t; lone = lone_operand t; wrapped = wrapped_operand t; scriptless = scriptless_operand t }

-- with the sign before it
abbrev pub script_part : ℕ → Script → PlainPart
script_part sign t =
    record { used = length (script_text (sign ∷ []) t); atoms = script_atoms t; lone = false; wrapped = false; scriptless = is_bare t }

abbrev pub scripts_part : Script → Script → PlainPart
scripts_part l h = join (script_part (code "_") l) 0 (script_part (code "^") h)

-- ---- the two signs
pub data Sign : Type 0 where
  plus minus : Sign

abbrev pub signed : Sign → Product → Sum → Sum
signed plus p s = Grammar.plus p s
signed minus p s = Grammar.minus p s

abbrev pub sign_text : Sign → List ℕ
sign_text plus = bytes " + "
sign_text minus = bytes " - "

pub signed-text : (b : Sign) (p : Product) (s : Sum) → text (signed b p s) ≡ product_text p ++ sign_text b ++ text s
unfolding text
signed-text plus p s = refl
signed-text minus p s = refl

pub signed-proper : (b : Sign) (p : Product) (s : Sum) → proper (signed b p s) ≡ proper_product p && proper s
signed-proper plus p s = refl
signed-proper minus p s = refl

-- ---- parts of parts: only the bytes are to be counted
sized : {m n a : ℕ} {l w s : Bool} → m ≡ n
    → ◌≡◌ {A = PlainPart} (record { used = m; atoms = a; lone = l; wrapped = w; scriptless = s }) (record { used = n; atoms = a; lone = l; wrapped = w; scriptless = s })
sized e = rw e

pub product-part : (p : Product) → sum_part (product p) ≡ product_part p
unfolding text atoms
product-part p = refl

pub signed_part : (b : Sign) (p : Product) (s : Sum) → sum_part (signed b p s) ≡ join (product_part p) 3 (sum_part s)
unfolding text atoms
signed_part plus p s = sized (simp length-append (omega arith))
signed_part minus p s = sized (simp length-append (omega arith))

pub factor-part : (f : Factor) → product_part (factor f) ≡ factor_part f
unfolding text atoms
factor-part f = refl

pub beside-part : (f : Factor) (p : Product) → product_part (beside f p) ≡ join (factor_part f) 1 (product_part p)
unfolding text atoms
beside-part f p = sized (simp length-append (omega arith))

pub atom-part : (a : Atom) → operand_part (atom a) ≡ leaf (length (atom_text a)) 1 true
unfolding text atoms
atom-part a = refl

pub enclosed-part : (s : Sum) → operand_part (enclosed s) ≡ wrap (sum_part s)
unfolding text atoms
enclosed-part s = sized (simp length-append (omega arith))

pub group-part : (s : Sum) → factor_part (group s) ≡ operand_part (enclosed s)
unfolding text atoms
group-part s = refl

pub fraction-part : (n d : Operand) → factor_part (fraction n d) ≡ join (operand_part n) 1 (operand_part d)
unfolding text atoms
fraction-part n d = sized (simp length-append (omega arith))

pub scripted-part : (a : Atom) (l h : Script) → factor_part (scripted a l h) ≡ with_scripts (leaf (length (atom_text a)) 1 true) (scripts_part l h)
unfolding text atoms
scripted-part a l h = sized (simp length-append (omega arith))

pub bare-part : (sign : ℕ) → script_part sign bare ≡ leaf 0 0 true
unfolding text atoms
bare-part sign = refl

pub symbol-part : (sign c : ℕ) (e : alnum c ≡ true) → script_part sign (symbol c e) ≡ leaf 2 0 false
unfolding text atoms
symbol-part sign c e = refl

pub inner-part : (sign : ℕ) (s : Sum) → script_part sign (inner s) ≡ as_script (operand_part (enclosed s))
unfolding text atoms
inner-part sign s = sized (simp length-append (omega arith))

-- ---- an operand is proper if what it encloses is, and it is no atom in parentheses
abbrev pub proper_inside : Operand → Bool
proper_inside (atom a) = true
proper_inside (enclosed s) = proper s

pub operand-inside : (t : Operand) → proper_operand t ≡ true → proper_inside t ≡ true
operand-inside (atom a) e = refl
operand-inside (enclosed s) e = and_right (not (lone_atom s)) (proper s) e

operand-unwrapped : (t : Operand) → proper_operand t ≡ true → wrapped_operand t ≡ false
operand-unwrapped (atom a) e = refl
operand-unwrapped (enclosed s) e = not-true (lone_atom s) (and_left (not (lone_atom s)) (proper s) e)

operand-proper : (t : Operand) → wrapped_operand t ≡ false → proper_inside t ≡ true → proper_operand t ≡ true
operand-proper (atom a) w e = refl
operand-proper (enclosed s) w e = rw (w, e)

-- ---- and a fraction is if neither operand is barred
module _ (n d : Operand) where
  pub proper-unbarred : proper_factor (fraction n d) ≡ true → indivisible (operand_part n) (operand_part d) ≡ false
  proper-unbarred e = rw (operand-unwrapped n (and_left (proper_operand n) (proper_operand d) e), operand-unwrapped d (and_right (proper_operand n) (proper_operand d) e))

  pub unbarred-proper : indivisible (operand_part n) (operand_part d) ≡ false → proper_inside n ≡ true → proper_inside d ≡ true → proper_factor (fraction n d) ≡ true
  unbarred-proper e i j =
      let neither = or-neither (wrapped_operand n) (wrapped_operand d) e in
      and_both (operand-proper n neither.0 i) (operand-proper d neither.1 j)
