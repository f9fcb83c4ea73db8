-- What the grammar asks is needed: for each of its demands besides the rules a sum that lacks only this one, and of which the theorem is false, here with
-- all five commands tall; and why a bare chain is left out.
--     script-misprints      a script in a script: what is printed is not the sum's LaTeX
--     parentheses-alike     a lone atom in operand parentheses: two texts, one LaTeX
--     chain-alike           a bare chain prints as a plain formula does
use Rattle.std.specs.Prelude.{◌≡◌, refl, Bool, true, false, List, [], ℕ}
use Rattle.std.proofs.Common.{sym, ap, ◌∙◌, true≢false}
use Prim.Native.Char.{code}
use Rattle.spec.specs.Symbols.{bytes, same}
use Rattle.spec.specs.Result.{Result, passed, refused}
use Rattle.spec.specs.Finish.{all_tall}
use Rattle.spec.specs.Pipeline.{typst_to_latex}
use Rattle.spec.specs.Grammar.{Atom, variable, Sum, product, factor, Factor, scripted, fraction, atom, enclosed, bare, inner, proper, text, latex}

abbrev alone : Factor → Sum
alone f = product (factor f)

abbrev a : Atom
a = variable (code "a") refl

abbrev b : Atom
b = variable (code "b") refl

abbrev c : Atom
c = variable (code "c") refl

-- `a_(b_(c))`
abbrev twice : Sum
twice = alone (scripted a (inner (alone (scripted b (inner (alone (scripted c bare bare))) bare))) bare)

-- `a/(b)` and `a/b`
abbrev wrapped : Sum
wrapped = alone (fraction (atom a) (enclosed (alone (scripted b bare bare))))

abbrev unwrapped : Sum
unwrapped = alone (fraction (atom a) (atom b))

-- ---- neither demand is met
abbrev printed : List ℕ → Result (List ℕ) → Bool
printed s (passed x) = same x s
printed s (refused n) = false

misprints : (s : Sum) → same (latex all_tall s) (latex all_tall s) ≡ true → printed (latex all_tall s) (typst_to_latex [] true all_tall (text s)) ≡ false → typst_to_latex [] true all_tall (text s) ≡ passed (latex all_tall s) → ⊥
misprints s self other e = true≢false (sym self ∙ sym (ap (printed (latex all_tall s)) e) ∙ other)

pub script-improper : proper twice ≡ false
script-improper = refl

pub script-misprints : typst_to_latex [] true all_tall (text twice) ≡ passed (latex all_tall twice) → ⊥
unfolding typst_to_latex text latex
script-misprints = misprints twice refl refl

pub parentheses-improper : proper wrapped ≡ false
parentheses-improper = refl

pub parentheses-alike : (latex all_tall wrapped ≡ latex all_tall unwrapped) × (text wrapped ≡ text unwrapped → ⊥)
unfolding text latex
parentheses-alike = (refl, λ e. true≢false (ap (λ x. same x (bytes "a/(b)")) e))

-- ---- a bare chain
-- `(a/b)/c`
abbrev divided : Sum
divided = alone (fraction (enclosed (alone (fraction (atom a) (atom b)))) (atom c))

pub divided-proper : proper divided ≡ true
divided-proper = refl

pub chain-alike : (typst_to_latex [] true all_tall (bytes "a/b/c") ≡ passed (latex all_tall divided)) × (text divided ≡ bytes "a/b/c" → ⊥)
unfolding typst_to_latex text latex
chain-alike = (refl, λ e. true≢false (sym (ap (λ x. same x (bytes "a/b/c")) e)))
