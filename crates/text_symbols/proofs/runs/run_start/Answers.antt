-- `text_symbols::runs::run_start` meets its contract. The loop's invariant: only symbols of the class have been passed. Assumes nothing.
use Rattle.text_symbols.specs.Places.{before, before-step, before-none}
use Rattle.text_symbols.specs.Runs.{member, drop_while-more, drop_while-stop, drop_while-none}
use mathlib.Core.Path.{◌≡◌, sym, ap, ◌∙◌}
use Prim.Native.Nat.{◌+◌, ◌-◌}
use native.Mathlib.Omega.{arith}
use Rattle.text_symbols.proofs.runs.run_start.Goals as goal

pub returns-then-not-is_in : goal.returns-then-not-is_in
returns-then-not-is_in c =
    let here = before-step c.args.s.now c.loop-i.i (omega arith) (omega arith) in
    let other = sym c.is_in.ensures ∙ c.if-not-is_in.true in
    let behind : c.loop-i.i - 1 + 1 ≡ c.loop-i.i = omega arith in
    record { to = omega arith; left = ap (before c.args.s.now) behind ∙ sym (c.loop-i.invariant ∙ drop_while-stop (member c.args.class) here other) }

pub loop-i-preserved : goal.loop-i-preserved
loop-i-preserved c =
    let here = before-step c.args.s.now c.loop-i.i (omega arith) (omega arith) in
    let same = sym c.is_in.ensures ∙ c.if-not-is_in.false in
    c.loop-i.invariant ∙ drop_while-more (member c.args.class) here same

pub returns : goal.returns
returns c =
    let none = before-none c.args.s.now c.loop-i.i (omega arith) in
    record { to = omega arith; left = sym (c.loop-i.invariant ∙ drop_while-none (member c.args.class) none ∙ none) }
