-- `lr::rewrite_lr` meets its contract. The loop's invariant is that of a sweep, at place i, and no bare delimiter has been reached. Assumes nothing.
use Rattle.lr.specs.Lr.{delimits-met, comes-past-no-call, bare-here, sized-here, sized-written, sized-few}
use Rattle.lr.specs.Reached.{comes-first, comes-end}
use Rattle.call_rewriting.specs.Delimiters.{called-here, copied-here}
use Rattle.spec.specs.Finish.{latex_lr, lr, bare_delimiter}
use Rattle.text_symbols.specs.Parts.{part, length_part}
use Rattle.text.specs.Sweep.{sweeping-none, sweeping-all}
use lib.Dec.{eqb}
use lib.ListN.{drop, length-take}
use mathlib.Core.Bool.{◌&&◌}
use mathlib.Core.Path.{refl, sym, ap, ◌∙◌}
use Prim.Native.Nat.{◌+◌}
use native.Mathlib.Omega.{arith}
use Rattle.lr.proofs.rewrite_lr.Goals as goal

pub loop-i-init : goal.loop-i-init
loop-i-init c = (sweeping-none _ c.requires, sym (comes-first bare_delimiter lr (part c.args.source.at c.args.source.n c.args.work.now)))

pub loop-i-preserved-in_default : goal.loop-i-preserved-in_default
loop-i-preserved-in_default c =
    let sweeping = c.loop-i.invariant.0 in
    let more = c.loop-i-test.true in
    let called = c.lr_at.ensures in
    (copied-here latex_lr sweeping more called c.in_default.is c.copy_one-out.ensures, c.loop-i.invariant.1 ∙ comes-past-no-call sweeping more called c.in_default.is)

pub returns-then-k-is_some : goal.returns-then-k-is_some
returns-then-k-is_some c =
    let sweeping = c.loop-i.invariant.0 in
    let bare = ap (λ b. eqb c.in-Some.k 1 && b) (sym (c.is_some.ensures ∙ delimits-met _ c.symbol-first.result _ c.delimiters.ensures)) ∙ c.if-k-is_some.true in (
      refl,
      record {
        reaches = c.loop-i.invariant.1 ∙ bare-here sweeping c.loop-i-test.true c.lr_at.ensures c.in-Some.is c.symbol-first.ensures bare;
        out = sweeping.out;
        writer = c.loop-i.out;
        appended = sweeping.appended;
      },
    )

pub loop-i-preserved : goal.loop-i-preserved
loop-i-preserved c =
    let sweeping = c.loop-i.invariant.0 in
    let more = c.loop-i-test.true in
    let called = c.lr_at.ensures in
    let inside = c.args.source.at + (c.loop-i.i + 3) in
    let few = length-take c.in-Some.k (drop inside c.loop-i.work) in
    let first = c.symbol-first.ensures in
    let other = ap (λ b. eqb c.in-Some.k 1 && b) (sym (c.is_some.ensures ∙ delimits-met _ c.symbol-first.result _ c.delimiters.ensures)) ∙ c.if-k-is_some.false in (
      called-here latex_lr sweeping more called c.in-Some.is (sized-written sweeping more called c.in-Some.is first) (sized-few (part inside c.in-Some.k c.loop-i.work) c.symbol-first.result c.in-Some.k (omega (arith, few)))
          c.put_sized-out.ensures,
      c.loop-i.invariant.1 ∙ sized-here sweeping more called c.in-Some.is first other,
    )

pub returns : goal.returns
returns c =
    let g = length_part c.args.source.at c.args.source.n c.args.work.now c.loop-i.invariant.0.regions.source in
    record {
      reaches = c.loop-i.invariant.1 ∙ comes-end bare_delimiter lr (part c.args.source.at c.args.source.n c.args.work.now) c.loop-i.i (omega arith);
      appended = sweeping-all c.loop-i.invariant.0 (omega arith);
    }
