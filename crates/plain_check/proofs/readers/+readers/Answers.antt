-- The readers meet their contracts: every answer cites a law of `Steps` or `Series`, by the way that the code took. Assumes nothing.
use Prim.Native.Nat.{ℕ}
use native.Mathlib.Omega.{arith}
use mathlib.Core.Path.{◌≡◌, refl, sym, ap, ◌∙◌}
use mathlib.Core.List.{List}
use lib.ListN.{drop}
use Rattle.spec.specs.Symbols.{alnum}
use Rattle.plain_parts.specs.declared.PlainPart.{PlainPart}
use Rattle.plain_parts.specs.Parts.{Read, at}
use Rattle.std.specs.Prelude.{Some}
use Rattle.plain_check.specs.Readers.{Answers}
use Rattle.plain_check.specs.Series.{first, later, first_part, ahead-short, read-nothing, read_done, read-turn, read-less}
use Rattle.plain_check.specs.Steps.{Front, sums, products, factor-nothing, factor-fraction, factor-scripted, factor-group, operand-atom, operand-group, operand-nothing, scripts-nothing, scripts-more, script-absent, script-short, script-group}
use Rattle.plain_check.proofs.readers.+readers.Goals as goal
use Rattle.plain_check.proofs.readers.+readers.Goals.{factor-in-Some+else-symbol-ne47, factor-in_default}

-- what has been found at the front, and what is left
front : {read : ℕ → List ℕ → Read} {rank : ℕ} {xs ys : List ℕ} {p : PlainPart} → Answers read rank xs (Some p) → ys ≡ drop p.used xs → Front read rank xs p ys
front answers behind = record { answers = answers; behind = behind }

-- ---- sums
pub sum-loop-p-init : goal.sum-loop-p-init
sum-loop-p-init t c = first

pub sum-product-requires : goal.sum-product-requires
sum-product-requires t c = omega (arith, ahead-short c.loop-p.invariant)

pub sum-returns-in_err-p : goal.sum-returns-in_err-p
sum-returns-in_err-p t c = rw c.from_residual.ensures (read-nothing c.loop-p.invariant _ (first_part sums _ c.product.ensures) c.behind.ensures c.in_err-p.was)

pub sum-returns-then-not-sign_next : goal.sum-returns-then-not-sign_next
sum-returns-then-not-sign_next t c =
    read_done c.loop-p.invariant _ (first_part sums _ c.product.ensures) c.behind.ensures c.in_ok-p.was c.rest-u.ensures (sym c.if-not-sign_next.ensures)

pub sum-loop-p-smaller : goal.sum-loop-p-smaller
sum-loop-p-smaller t c =
    read-less c.loop-p.invariant _ (first_part sums _ c.product.ensures) c.behind.ensures c.in_ok-p.was c.rest-u.ensures (sym c.if-not-sign_next.ensures) c.rest-t.ensures

pub sum-loop-p-preserved : goal.sum-loop-p-preserved
sum-loop-p-preserved t c =
    later (read-turn c.loop-p.invariant _ (first_part sums _ c.product.ensures) c.behind.ensures c.in_ok-p.was c.rest-u.ensures (sym c.if-not-sign_next.ensures) c.rest-t.ensures)

-- ---- products
pub product-loop-p-init : goal.product-loop-p-init
product-loop-p-init t c = first

pub product-returns-in_err-p : goal.product-returns-in_err-p
product-returns-in_err-p t c = rw c.from_residual.ensures (read-nothing c.loop-p.invariant _ (first_part products _ c.factor.ensures) c.behind.ensures c.in_err-p.was)

pub product-returns-then-not-factor_next : goal.product-returns-then-not-factor_next
product-returns-then-not-factor_next t c =
    read_done c.loop-p.invariant _ (first_part products _ c.factor.ensures) c.behind.ensures c.in_ok-p.was c.rest-u.ensures (sym c.if-not-factor_next.ensures)

pub product-loop-p-smaller : goal.product-loop-p-smaller
product-loop-p-smaller t c =
    read-less c.loop-p.invariant _ (first_part products _ c.factor.ensures) c.behind.ensures c.in_ok-p.was c.rest-u.ensures (sym c.if-not-factor_next.ensures) c.rest-t.ensures

pub product-loop-p-preserved : goal.product-loop-p-preserved
product-loop-p-preserved t c =
    later (read-turn c.loop-p.invariant _ (first_part products _ c.factor.ensures) c.behind.ensures c.in_ok-p.was c.rest-u.ensures (sym c.if-not-factor_next.ensures) c.rest-t.ensures)

-- ---- factors: an atom with no slash behind it, a fraction, or a sum in parentheses
pub factor-returns-then-symbol-ne47 : goal.factor-returns-then-symbol-ne47
factor-returns-then-symbol-ne47 t c =
    let atom = operand-atom c.args.s.now c.in-Some.ensures.1 c.in-Some.ensures.0 in
    rw c.scripted.ensures (factor-scripted (front atom c.rest-t.ensures) (λ e. c.if-symbol-ne47.true (c.symbol.ensures ∙ e)) refl c.scripts.ensures)

pub factor-returns-in_err-p : goal.factor-returns-in_err-p
factor-returns-in_err-p t c = rw c.from_residual.ensures (factor-nothing c.in_err-p.ensures)

pub factor-returns-then-symbol-eq47 : goal.factor-returns-then-symbol-eq47
factor-returns-then-symbol-eq47 t c =
    let slash = sym c.symbol-2.ensures ∙ c.if-symbol-eq47.true in
    rw c.divided.ensures (factor-fraction (front c.in_ok-p.ensures c.rest-u.ensures) slash c.rest.ensures c.operand-then-symbol-eq47.ensures)

pub factor-returns : goal.factor-returns
factor-returns t c =
    factor-group (front c.in_ok-p.ensures c.rest-u.ensures)
    (elim c.match-atom.branch [
      | factor-in-Some+else-symbol-ne47 w ↦
          λ _. ap (λ m. at (drop m c.args.s.now) 0) (sym w.in-Some.ensures.1) ∙ ap (λ l. at l 0) (sym w.rest-t.ensures) ∙ sym w.symbol.ensures ∙ w.if-symbol-ne47.false
      | factor-in_default w ↦ λ some. absurd (omega (arith, w.in_default.ensures))
    ])
    (λ e. c.if-symbol-eq47.false (c.symbol-2.ensures ∙ e))

-- ---- operands
pub operand-returns-in-Some : goal.operand-returns-in-Some
operand-returns-in-Some t c = rw c.leaf.ensures (operand-atom c.args.s.now c.in-Some.ensures.1 c.in-Some.ensures.0)

pub operand-returns-then-symbol-eq40 : goal.operand-returns-then-symbol-eq40
operand-returns-then-symbol-eq40 t c =
    rw c.closed.ensures (operand-group c.args.s.now c.in_default.ensures (sym c.symbol.ensures ∙ c.if-symbol-eq40.true) c.rest-t.ensures c.sum.ensures)

pub operand-returns : goal.operand-returns
operand-returns t c = operand-nothing c.args.s.now c.in_default.ensures (λ e. c.if-symbol-eq40.false (c.symbol.ensures ∙ e))

-- ---- scripts
pub scripts-returns-in_err-p : goal.scripts-returns-in_err-p
scripts-returns-in_err-p t c = rw c.from_residual.ensures (scripts-nothing c.in_err-p.ensures)

pub scripts-returns : goal.scripts-returns
scripts-returns t c = rw c.adjoined.ensures (scripts-more (front c.in_ok-p.ensures c.rest.ensures) c.script-2.ensures)

pub script-returns-then-symbol-sign : goal.script-returns-then-symbol-sign
script-returns-then-symbol-sign t c =
    rw c.leaf.ensures (script-absent c.args.sign c.args.s.now (λ e. c.if-symbol-sign.true (c.symbol.ensures ∙ e)))

pub script-returns-then-is_alnum : goal.script-returns-then-is_alnum
script-returns-then-is_alnum t c =
    rw c.leaf-then-is_alnum.ensures
    (script-short c.args.sign c.args.s.now c.requires (sym c.symbol.ensures ∙ c.if-symbol-sign.false) c.rest-t.ensures
    (ap alnum (sym c.symbol-2.ensures) ∙ sym c.if-is_alnum.ensures))

pub script-returns : goal.script-returns
script-returns t c =
    rw c.enclosed_script.ensures
    (script-group c.args.sign c.args.s.now c.requires (sym c.symbol.ensures ∙ c.if-symbol-sign.false) c.rest-t.ensures
    (ap alnum (sym c.symbol-2.ensures) ∙ sym c.if-is_alnum.ensures) c.operand.ensures)
