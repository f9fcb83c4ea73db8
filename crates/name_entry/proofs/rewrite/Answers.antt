-- `name_entry::rewrite` meets its contract. The loop's invariant is that of a sweep, at place i. Assumes nothing.
use Rattle.std.proofs.Common.{◌≡◌, ◌∙◌, ap, sym, cond, arith}
use Rattle.text.specs.Sweep.{sweeping-none, sweeping-all, sweeping-gap}
use Rattle.name_entry.specs.Bounded.{bounded-waits}
use Rattle.name_entry.specs.Turns.{copied-here, written-here}
use Rattle.name_entry.proofs.rewrite.Goals as goal
use Rattle.name_entry.proofs.rewrite.Goals.{then-is_spared, else-is_spared}

pub loop-i-init : goal.loop-i-init
loop-i-init c = sweeping-none _ c.requires.regions

pub loop-i-preserved-then-not-stands : goal.loop-i-preserved-then-not-stands
loop-i-preserved-then-not-stands c =
    let copied = copied-here c.args.entry.now.bounds c.args.entry.now.pattern.now c.args.entry.now.fresh.now c.loop-i.invariant c.loop-i-test.true c.stands.ensures c.if-not-stands.true c.copy_one-out.ensures in
    sweeping-gap copied c.gap-gap.ensures (omega arith) (bounded-waits c.args.entry.now.bounds c.args.entry.now.pattern.now c.args.entry.now.fresh.now) c.copy-out.ensures

pub loop-i-preserved : goal.loop-i-preserved
loop-i-preserved c =
    let pattern = c.args.entry.now.pattern.now in let fresh = c.args.entry.now.fresh.now in
    let chosen : c.if-is_spared.written.now ≡ cond c.is_spared.result pattern fresh = elim c.if-is_spared.branch [
      | then-is_spared w ↦ ap (λ x. x.now) w.written-is ∙ ap (λ t. cond t pattern fresh) (sym w.if-is_spared.true)
      | else-is_spared w ↦ ap (λ x. x.now) w.written-is ∙ ap (λ t. cond t pattern fresh) (sym w.if-is_spared.false)
    ] in
    written-here c.args.entry.now.bounds c.args.entry.now.pattern.now c.args.entry.now.fresh.now c.loop-i.invariant c.loop-i-test.true c.stands.ensures c.requires.entry_texts_fit c.if-not-stands.false c.is_spared.ensures (rw chosen at c.put_all-out.ensures)

pub returns : goal.returns
returns c = sweeping-all c.loop-i.invariant (omega arith)
