-- `attach::convert_attach` meets its contract: the turns, and the finished text judged. Assumes nothing.
use Rattle.attach.specs.Turns.{ready-halved}
use Rattle.attach.proofs.convert_attach.Goals as goal

pub attach_all-place-requires : goal.attach_all-place-requires
attach_all-place-requires c = ready-halved c.requires c.in_ok-text.was
