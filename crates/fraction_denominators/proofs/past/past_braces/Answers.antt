-- `fraction_denominators::past::past_braces` meets its contract. The loop's invariant: the search from here is the search from the start. Assumes nothing.
use Rattle.fraction_denominators.specs.Past.{braces-more, braces-stop}
use mathlib.Core.Path.{sym, ◌∙◌}
use native.Mathlib.Omega.{arith}
use Rattle.fraction_denominators.proofs.past.past_braces.Goals as goal

pub loop-i-preserved : goal.loop-i-preserved
loop-i-preserved c =
    let group = c.past_group-i.ensures in
    let from = group.from in (
      omega arith,
      record { short = c.loop-i.invariant.1.short; within = group.within },
      c.loop-i.invariant.2 ∙ braces-more c.args.s.now c.loop-i.i c.symbol.ensures c.loop-i-test.true group,
    )

pub returns : goal.returns
returns c =
    let stop = braces-stop c.args.s.now c.loop-i.i c.symbol.ensures c.loop-i-test.false in
    record { from = c.loop-i.invariant.0; within = c.loop-i.invariant.1.within; left = sym (c.loop-i.invariant.2 ∙ stop) }
