-- `text_symbols::classes::is_in` meets its contract, by the class. Assumes nothing.
use Rattle.text_symbols.specs.Runs.{member}
use Rattle.text_symbols.specs.declared.Class.{Class}
use Rattle.spec.specs.Symbols.{is}
use mathlib.Core.Bool.{Bool, not, ◌||◌}
use mathlib.Core.Path.{◌≡◌, refl, sym, ap, ◌∙◌}
use Prim.Native.Nat.{ℕ}
use Rattle.text_symbols.proofs.classes.is_in.Goals as goal

-- what is so of the class that was met is so of the class that was given
met : {class k : Class} (b : ℕ) {t : Bool} → t ≡ member k b → class ≡ k → t ≡ member class b
met b e told = e ∙ ap (λ k. member k b) (sym told)

pub returns-in-Blank : goal.returns-in-Blank
returns-in-Blank c = met _ c.is_blank.ensures c.in-Blank.is

pub returns-in-Letter : goal.returns-in-Letter
returns-in-Letter c = met _ c.is_letter.ensures c.in-Letter.is

pub returns-in-Digit : goal.returns-in-Digit
returns-in-Digit c = met _ c.is_digit.ensures c.in-Digit.is

pub returns-in-Alnum : goal.returns-in-Alnum
returns-in-Alnum c = met _ c.is_alnum.ensures c.in-Alnum.is

pub returns-in-Formula : goal.returns-in-Formula
returns-in-Formula c = met _ (ap not c.is_foreign.ensures) c.in-Formula.is

pub returns-in-Latex : goal.returns-in-Latex
returns-in-Latex c = let b = c.args.b in met b (ap (λ t. not (t || is "$" b)) c.is_foreign-in-Latex.ensures) c.in-Latex.is

pub returns-in-Only : goal.returns-in-Only
returns-in-Only c = met _ refl c.in-Only.is

pub returns-in-Except : goal.returns-in-Except
returns-in-Except c = met _ refl c.in-Except.is
