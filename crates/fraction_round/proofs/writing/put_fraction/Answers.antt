-- `fraction_round::writing::put_fraction` meets its contract: five appends, one after the other. Assumes nothing.
use Rattle.fraction_round.specs.Writing.{room-halved, room-below, room-closed, appended-fraction}
use Rattle.fraction_round.proofs.writing.put_fraction.Goals as goal

pub put_all-halved-requires : goal.put_all-halved-requires
put_all-halved-requires c = room-halved c.args.f c.requires.room c.put_all-opened.ensures c.put_operand-above.ensures

pub put_operand-below-requires-clause-room : goal.put_operand-below-requires-clause-room
put_operand-below-requires-clause-room c = room-below c.args.f c.requires.room c.put_all-opened.ensures c.put_operand-above.ensures c.put_all-halved.ensures

pub put_all-requires : goal.put_all-requires
put_all-requires c = room-closed c.args.f c.requires.room c.put_all-opened.ensures c.put_operand-above.ensures c.put_all-halved.ensures c.put_operand-below.ensures

pub returns : goal.returns
returns c =
    appended-fraction c.args.f c.requires.source c.requires.den_source c.put_all-opened.ensures c.put_operand-above.ensures c.put_all-halved.ensures c.put_operand-below.ensures
    c.put_all.ensures
