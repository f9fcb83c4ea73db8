-- `escapes::braces::escape` meets its contract. The loop's invariant: what has been written and what is to be written from place i on are the whole.
-- Assumes nothing.
use Rattle.spec.specs.Result.{most_symbols}
use Rattle.escapes.specs.Braces.{escaped-from-first, escaped-from-end, escaped-from-more, escaped-from-few}
use Rattle.spec.specs.Finish.{brace, escape_set_braces}
use Rattle.text.specs.Filling.{Filling, filling-none, filling-all}
use Rattle.text_symbols.specs.Parts.{part, length_part}
use Rattle.text.specs.Writer.{Appended, appended-more, appended-long}
use lib.ListN.{get_or}
use Prim.Native.Nat.{◌+◌}
use mathlib.Core.Path.{refl, sym, subst, ◌∙◌}
use native.Mathlib.Omega.{arith}
use Rattle.escapes.proofs.braces.escape.Goals as goal
use Rattle.escapes.proofs.braces.escape.Goals.{then-not-is_bare, else-not-is_bare}

pub loop-i-init : goal.loop-i-init
loop-i-init c =
    let s = part c.args.source.at c.args.source.n c.args.work.now in
    (refl, omega arith, subst (λ r. Filling c.args.work.now c.args.work.now c.args.out c.args.out r (escape_set_braces s)) (sym (escaped-from-first s)) (filling-none _ _ _))

pub loop-i-preserved : goal.loop-i-preserved
loop-i-preserved c =
    let b = get_or c.loop-i.work (c.args.source.at + c.loop-i.i) 0 in
    let put : Appended c.loop-i.work c.put-out-in-loop-i.new.work c.loop-i.out c.put-out-in-loop-i.result (brace c.is_bare.result b) =
    elim c.if-not-is_bare.branch [
      | then-not-is_bare w ↦ rw w.if-not-is_bare.true (appended-more w.put-out.ensures (rw (w.work-is, w.out-is) at c.put-out-in-loop-i.ensures))
      | else-not-is_bare w ↦ rw w.if-not-is_bare.false (rw (w.work-is, w.out-is) at c.put-out-in-loop-i.ensures)
    ] in
    let more = escaped-from-few c.requires.regions c.loop-i.invariant.2 (omega arith) c.is_bare.ensures put in
    (appended-long put ∙ c.loop-i.invariant.0, omega arith, escaped-from-more c.requires.regions c.loop-i.invariant.2 (omega arith) c.is_bare.ensures put)

pub shape_of-work : goal.shape_of-work
shape_of-work c = c.loop-i.invariant.0

pub returns : goal.returns
returns c =
    let g = length_part c.args.source.at c.args.source.n c.args.work.now c.requires.regions.source in
    filling-all c.loop-i.invariant.2 (escaped-from-end (part c.args.source.at c.args.source.n c.args.work.now) c.loop-i.i (omega arith))
