-- `text_closing::backward::find_closer_back` meets its contract. The loop's invariant: the symbols passed have not closed the bracket, and those before them decide. Assumes nothing.
use Rattle.text_symbols.specs.Places.{before, before-step, before-none, before-all}
use Rattle.text_closing.specs.Closing.{close_from, opener-kept, closer-kept, depth-stepped, close-here, close-past, close_deep, depth-more}
use Rattle.spec.specs.Closing.{close}
use lib.ListN.{length, get_or}
use mathlib.Core.Path.{refl, sym, ap, ◌∙◌, subst}
use Prim.Native.Nat.{◌-◌, ◌<◌}
use native.Mathlib.Omega.{arith}
use Rattle.text_closing.proofs.backward.find_closer_back.Goals as goal

pub loop-i-init : goal.loop-i-init
loop-i-init c =
    rw c.new-tally.ensures (refl, refl, omega arith, omega arith, ap (close c.args.opener c.args.closer 0) (sym (before-all c.args.s.now)))

pub returns-then-tally-eq0 : goal.returns-then-tally-eq0
returns-then-tally-eq0 c =
    let inv = c.loop-i.invariant in
    let i = c.loop-i.i in
    let d = c.loop-i.tally.depth in
    let x = get_or c.args.s.now (i - 1) 0 in
    let depth = depth-stepped c.loop-i.tally x inv.0 inv.1 c.step-tally.ensures in
    record {
      within = omega arith;
      left =
          sym (inv.4 ∙ ap (close_from c.args.opener c.args.closer d) (before-step c.args.s.now i (omega arith) (omega arith))
          ∙ close-here c.args.opener c.args.closer d x (before c.args.s.now (i - 1)) inv.2 (sym depth ∙ c.if-tally-eq0.true));
    }

pub loop-i-preserved : goal.loop-i-preserved
loop-i-preserved c =
    let inv = c.loop-i.invariant in
    let i = c.loop-i.i in
    let d = c.loop-i.tally.depth in
    let x = get_or c.args.s.now (i - 1) 0 in
    let rest = before c.args.s.now (i - 1) in
    let step = c.step-tally.ensures in
    let depth = depth-stepped c.loop-i.tally x inv.0 inv.1 step in
    let more = depth-more c.args.opener c.args.closer d x rest inv.2 in
    let deep : 0 < c.step-tally.result.depth = omega arith in (
      opener-kept c.loop-i.tally x inv.0 inv.1 step,
      closer-kept c.loop-i.tally x inv.0 inv.1 step,
      deep,
      omega arith,
      inv.4 ∙ ap (close_from c.args.opener c.args.closer d) (before-step c.args.s.now i (omega arith) (omega arith))
          ∙ close-past c.args.opener c.args.closer d x rest inv.2 (subst (λ k. 0 < k) depth deep)
          ∙ ap (λ k. close_from c.args.opener c.args.closer k rest) (sym depth),
    )

pub returns : goal.returns
returns c =
    let none = before-none c.args.s.now c.loop-i.i (omega arith) in
    let short = ap length none in
    record { within = omega arith; left = sym (c.loop-i.invariant.4 ∙ close_deep c.args.opener c.args.closer (c.loop-i.tally.depth - 1) (before c.args.s.now c.loop-i.i) (omega arith)) }
