use Rattle.std.proofs.Common.{◌≡◌, ◌-◌, ◌/◌, ◌%◌, mod-lt, div-add-mod', arith, length-set}
use Rattle.plain_short.specs.Spelling.{spelling-goes-on, spelling-ends, spelling-room}
use Rattle.plain_short.proofs.spelling.spell.Goals as goal

pub loop-left-preserved : goal.loop-left-preserved
loop-left-preserved c =
    let l = c.loop-left in
    let room = spelling-room l.invariant.0 (omega arith) in
    let digits = div-add-mod' (l.left - 1) 11 in (
      spelling-goes-on l.invariant.0 ((l.left - 1) / 11) ((l.left - 1) % 11) (l.start - 1) (omega arith) (mod-lt _ (omega arith)) (omega arith),
      rw length-set l.invariant.1,
    )

pub returns : goal.returns
returns c =
    let l = c.loop-left in
    let done : l.left ≡ 0 = omega arith in
    record { long = l.invariant.1; within = l.invariant.0.within; spells = spelling-ends (rw done at l.invariant.0) }
