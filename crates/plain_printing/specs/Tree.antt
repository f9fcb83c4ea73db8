-- Plain formulas as trees, and how a tree is written at each stage.
use Rattle.std.specs.Prelude.{◌≡◌, Bool, true, false, not, cond, ◌&&◌, List, [], ◌∷◌, ◌++◌, ℕ, zero, suc, pred, ◌≤◌, max, ltb}
use Rattle.std.proofs.Common.{le-ltb}
use Rattle.spec.specs.Symbols.{bytes, alnum}
use Rattle.spec.specs.Fractions.{frac}
use Rattle.spec.specs.Grammar.{Atom, variable, greek, number, greek_name}

pub data Join : Type 0 where
  beside plus minus : Join

abbrev pub join_text : Join → List ℕ
join_text beside = bytes " "
join_text plus = bytes " + "
join_text minus = bytes " - "

-- A sum is a row of factors with joins between them: products and sums are written alike.
mutual
  pub data Tree : Type 0 where
    atom : Atom → TreeScript → TreeScript → Tree
    fraction : Tree → Tree → Tree
    group : Tree → Tree
    row : Tree → Join → Tree → Tree

  pub data TreeScript : Type 0 where
    bare : TreeScript
    symbol : (c : ℕ) → alnum c ≡ true → TreeScript
    inner : Tree → TreeScript

-- no slash, so no fraction
abbrev mutual
  pub slashless : Tree → Bool
  slashless (atom a l h) = slashless_script l && slashless_script h
  slashless (fraction n d) = false
  slashless (group t) = slashless t
  slashless (row t j u) = slashless t && slashless u

  pub slashless_script : TreeScript → Bool
  slashless_script bare = true
  slashless_script (symbol c e) = true
  slashless_script (inner t) = slashless t

abbrev mutual
  pub scriptless : Tree → Bool
  scriptless (atom a l h) = scriptless_script l && scriptless_script h
  scriptless (fraction n d) = scriptless n && scriptless d
  scriptless (group t) = scriptless t
  scriptless (row t j u) = scriptless t && scriptless u

  pub scriptless_script : TreeScript → Bool
  scriptless_script bare = true
  scriptless_script (symbol c e) = false
  scriptless_script (inner t) = false

-- What a tree must be besides: no script in a script.
abbrev mutual
  pub PlainTree : Tree → Type 0
  PlainTree (atom a l h) = PlainScript l × PlainScript h
  PlainTree (fraction t u) = PlainTree t × PlainTree u
  PlainTree (group t) = PlainTree t
  PlainTree (row t j u) = PlainTree t × PlainTree u

  pub PlainScript : TreeScript → Type 0
  PlainScript bare = Unit {0}
  PlainScript (symbol c e) = Unit {0}
  PlainScript (inner t) = (scriptless t ≡ true) × PlainTree t

-- How far a text has come: Greek names marked by their backslash in the rows below a bound, `_` groups in braces, `^` groups in braces, sized.
pub record Style : Type 0 where
  pub greeks : ℕ
  pub low : Bool
  pub high : Bool
  pub sized : Bool

abbrev pub unsized : Style → Style
unsized s = record { greeks = s.greeks; low = s.low; high = s.high; sized = false }

abbrev pub atom_writing : ℕ → Atom → List ℕ
atom_writing k (variable c e) = c ∷ []
atom_writing k (greek i e) = cond (ltb i k) (bytes "\\") [] ++ greek_name i
atom_writing k (number ds e b) = ds

-- an operand that is a lone atom has no parentheses
abbrev pub lone : Tree → Bool
lone (atom a bare bare) = true
lone (atom a bare (symbol c e)) = false
lone (atom a bare (inner t)) = false
lone (atom a (symbol c e) h) = false
lone (atom a (inner t) h) = false
lone (fraction n d) = false
lone (group t) = false
lone (row t j u) = false

abbrev pub operand : Bool → List ℕ → List ℕ
operand true s = s
operand false s = bytes "(" ++ (s ++ bytes ")")

abbrev pub slashed : List ℕ → List ℕ → List ℕ
slashed n d = n ++ (bytes "/" ++ d)

abbrev pub parens : Bool → List ℕ → List ℕ
parens true s = bytes "\\left(" ++ (s ++ bytes "\\right)")
parens false s = bytes "(" ++ (s ++ bytes ")")

abbrev pub script_brackets : Bool → List ℕ → List ℕ
script_brackets true s = bytes "{" ++ (s ++ bytes "}")
script_brackets false s = bytes "(" ++ (s ++ bytes ")")

-- how many fractions stand one within another
abbrev mutual
  pub height : Tree → ℕ
  height (atom a l h) = max (height_script l) (height_script h)
  height (fraction t u) = suc (max (height t) (height u))
  height (group t) = height t
  height (row t j u) = max (height t) (height u)

  pub height_script : TreeScript → ℕ
  height_script bare = 0
  height_script (symbol c e) = 0
  height_script (inner t) = height t

-- Which fractions n rounds have not stacked yet, by their numerator: a round stacks a fraction once its numerator holds no slash, and leaves it till then.
abbrev pub unstacked : ℕ → Tree → Bool
unstacked zero t = true
unstacked (suc n) t = ltb n (height t)

-- A tree as n rounds have written it. The round that stacks a fraction does not look into its operands, so these are as the round before left them.
unfoldable mutual
  pub write : Style → ℕ → Tree → List ℕ
  write s n (atom a l h) = atom_writing s.greeks a ++ (write_script s n (bytes "_") s.low l ++ write_script s n (bytes "^") s.high h)
  write s n (fraction t u) =
      cond (unstacked n t) (slashed (operand (lone t) (write s n t)) (operand (lone u) (write s n u))) (frac (write s (pred n) t) (write s (pred n) u))
  write s n (group t) = parens (s.sized && not (slashless t)) (write s n t)
  write s n (row t j u) = write s n t ++ (join_text j ++ write s n u)

  pub write_script : Style → ℕ → List ℕ → Bool → TreeScript → List ℕ
  write_script s n mark braced bare = []
  write_script s n mark braced (symbol c e) = mark ++ c ∷ []
  write_script s n mark braced (inner t) = mark ++ script_brackets braced (write (unsized s) n t)

-- what holds of a fraction with its slash and stacked, holds of it after any round
pub either_way : (P : List ℕ → Type 0) (b : Bool) {x y : List ℕ} → P x → P y → P (cond b x y)
either_way P true p q = p
either_way P false p q = q

-- a fraction no higher than the rounds is stacked
pub stacked : (s : Style) (n : ℕ) (t u : Tree) → height t ≤ n → write s (suc n) (fraction t u) ≡ frac (write s n t) (write s n u)
unfolding write
stacked s n t u h = rw (le-ltb n (height t) h)

-- as typed, with the Greek rows below k marked
abbrev pub typed_style : ℕ → Style
typed_style k = record { greeks = k; low = false; high = false; sized = false }

abbrev pub typst_style : Style
typst_style = typed_style 0

-- all Greek names marked; are the groups of `_` and of `^` in braces?
abbrev pub marked_style : Bool → Bool → Style
marked_style below above = record { greeks = 30; low = below; high = above; sized = false }

-- before the fractions
abbrev pub braced_style : Style
braced_style = marked_style true true

-- at the end: are parentheses with a fraction in them sized?
abbrev pub final_style : Bool → Style
final_style sized = record { greeks = 30; low = true; high = true; sized = sized }

-- the formula, and its LaTeX
abbrev pub text : Tree → List ℕ
text t = write typst_style 0 t

abbrev pub tree_latex : Bool → Tree → List ℕ
tree_latex sized t = write (final_style sized) (height t) t
