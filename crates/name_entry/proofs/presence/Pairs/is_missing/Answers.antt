-- `name_entry::presence::Pairs::is_missing` meets its contract. The loop's invariant: the pairs of the rest decide. Assumes nothing.
use Rattle.std.proofs.Common.{◌<◌, ◌∙◌, ap, sym, eqb, length, get_or, arith}
use Rattle.spec.specs.Symbols.{any}
use Rattle.name_entry.specs.Seen.{pair-numbers-end}
use Rattle.name_entry.proofs.presence.Pairs.is_missing.Goals as goal

pub returns : goal.returns
returns c =
    let short = c.in-None.ensures.steps.1.0 in
    let few : length c.loop-w.w-iterator.rest.now < 2 = omega arith in
    sym (ap (any (λ k. eqb (get_or c.args.self.now.seen k 0) 0)) (pair-numbers-end c.loop-w.w-iterator.rest.now few)) ∙ c.loop-w.invariant.1
