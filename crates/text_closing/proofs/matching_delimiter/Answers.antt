-- `text_closing::matching_delimiter` meets its contract, by the search behind its first symbol. Assumes nothing.
use Rattle.text_closing.specs.Closing.{delimiter-empty, delimiter-past}
use Rattle.std.specs.Prelude.{Some}
use Rattle.text_search.specs.Search.{Closes, closes-rest, closes-later, closes-nothing}
use Rattle.spec.specs.Closing.{close}
use lib.ListN.{length, length-take, length-drop}
use Prim.Native.Nat.{◌+◌}
use mathlib.Core.Path.{◌≡◌, sym, ◌∙◌, subst₂}
use Rattle.std.proofs.Common.{eqb-true}
use Rattle.std.proofs.lemmas.Bool.{eqb-false}
use native.Mathlib.Omega.{arith}
use Rattle.text_closing.proofs.matching_delimiter.Goals as goal

pub returns-then-is_empty : goal.returns-then-is_empty
returns-then-is_empty c =
    let none = eqb-true (length c.args.s.now) 0 (sym c.is_empty.ensures ∙ c.if-is_empty.true) in
    record { within = omega arith; left = sym (delimiter-empty c.args.opener c.args.closer c.args.s.now none) }

pub find_closer-requires : goal.find_closer-requires
find_closer-requires c = simp (length-take, length-drop) (omega arith)

pub returns-in_err-k : goal.returns-in_err-k
returns-in_err-k c =
    let found = closes-rest c.args.s.now 1 (close c.args.opener c.args.closer 0) c.find_closer.ensures in
    rw c.from_residual.ensures
    (record { within = omega arith; left = sym (sym (delimiter-past c.args.opener c.args.closer c.args.s.now) ∙ closes-nothing found c.in_err-k.was) })

pub returns : goal.returns
returns c =
    let found = closes-rest c.args.s.now 1 (close c.args.opener c.args.closer 0) c.find_closer.ensures in
    let some = eqb-false (length c.args.s.now) 0 (sym c.is_empty.ensures ∙ c.if-is_empty.false) in
    let next : 1 + c.in_ok-k.k ≡ c.in_ok-k.k + 1 = omega arith in
    subst₂ (λ i o. Closes c.args.s.now (Some i) o) next (delimiter-past c.args.opener c.args.closer c.args.s.now)
    (closes-later {s = c.args.s.now} 1 (omega (arith, some)) found c.in_ok-k.was)

pub overflow_add-result : goal.overflow_add-result
overflow_add-result c = let w = (returns c).within in omega arith
