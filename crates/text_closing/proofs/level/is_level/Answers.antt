-- `text_closing::level::is_level` meets its contract. The loop's invariant: no bracket that was passed closed too many, and the rest decides. Assumes nothing.
use Rattle.text_closing.specs.Closing.{opener-kept, closer-kept, depth-stepped, depth-more}
use Rattle.text_closing.specs.Level.{level-here, level-past, level-end}
use Rattle.spec.specs.Laws.Symbols.{drop-step}
use Rattle.spec.specs.Closing.{level}
use lib.ListN.{get_or, drop}
use mathlib.Core.Path.{refl, sym, ap, ◌∙◌, subst}
use Prim.Native.Nat.{◌-◌, ◌+◌, ◌<◌}
use native.Mathlib.Omega.{arith}
use Rattle.text_closing.proofs.level.is_level.Goals as goal

pub loop-b-init : goal.loop-b-init
loop-b-init c = rw c.new-tally.ensures (refl, refl, omega arith, omega arith, refl)

pub returns-then-tally-eq0 : goal.returns-then-tally-eq0
returns-then-tally-eq0 c =
    let inv = c.loop-b.invariant in
    let i = c.loop-b.b-index in
    let d = c.loop-b.tally.depth in
    let x = get_or c.args.s.now i 0 in
    let depth = depth-stepped c.loop-b.tally x inv.0 inv.1 c.step-tally.ensures in
    sym (inv.4 ∙ ap (level c.args.opener c.args.closer (d - 1)) (drop-step c.args.s.now i (omega arith))
    ∙ level-here c.args.opener c.args.closer d x (drop (i + 1) c.args.s.now) inv.2 (sym depth ∙ c.if-tally-eq0.true))

pub loop-b-preserved : goal.loop-b-preserved
loop-b-preserved c =
    let inv = c.loop-b.invariant in
    let i = c.loop-b.b-index in
    let d = c.loop-b.tally.depth in
    let x = get_or c.args.s.now i 0 in
    let rest = drop (i + 1) c.args.s.now in
    let step = c.step-tally.ensures in
    let depth = depth-stepped c.loop-b.tally x inv.0 inv.1 step in
    let more = depth-more c.args.opener c.args.closer d x rest inv.2 in
    let deep : 0 < c.step-tally.result.depth = omega arith in (
      opener-kept c.loop-b.tally x inv.0 inv.1 step,
      closer-kept c.loop-b.tally x inv.0 inv.1 step,
      deep,
      omega arith,
      inv.4 ∙ ap (level c.args.opener c.args.closer (d - 1)) (drop-step c.args.s.now i (omega arith))
          ∙ level-past c.args.opener c.args.closer d x rest inv.2 (subst (λ k. 0 < k) depth deep)
          ∙ ap (λ k. level c.args.opener c.args.closer (k - 1) rest) (sym depth),
    )

pub returns : goal.returns
returns c =
    sym (c.loop-b.invariant.4 ∙ level-end c.args.opener c.args.closer c.loop-b.tally.depth c.args.s.now c.loop-b.b-index c.loop-b.invariant.2 (omega arith))
