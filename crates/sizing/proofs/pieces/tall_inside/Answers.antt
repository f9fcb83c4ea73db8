-- `sizing::pieces::tall_inside` meets its contract, by what the closing search finds. Assumes nothing.
use Rattle.sizing.specs.Pieces.{tall-none, tall-if}
use Rattle.sizing.proofs.pieces.tall_inside.Goals as goal

pub returns-in_err-k : goal.returns-in_err-k
returns-in_err-k c =
    rw c.from_residual.ensures (tall-none c.args.field c.args.s.now c.args.opener c.args.closer c.find_closer.ensures c.in_err-k.was)

pub returns : goal.returns
returns c =
    rw c.then_some.ensures (tall-if c.args.field c.args.s.now c.args.opener c.args.closer c.find_closer.ensures c.in_ok-k.was c.is_tall.result c.is_tall.ensures)
