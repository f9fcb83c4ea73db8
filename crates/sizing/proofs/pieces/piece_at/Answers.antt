-- `sizing::pieces::piece_at` meets its contract, by what the searches find. Assumes nothing.
use Rattle.std.proofs.Common.{rules}
use Rattle.sizing.specs.Pieces.{script-piece, other-piece}
use Rattle.sizing.proofs.pieces.piece_at.Goals as goal

pub returns-in-Some : goal.returns-in-Some
returns-in-Some c = script-piece c.args.field c.args.s.now c.args.i c.requires.0 c.script_at.ensures c.in-Some.is

pub returns : goal.returns
returns c = other-piece c.args.field c.args.s.now c.args.i c.requires.0 c.script_at.ensures c.in_default.is c.map_or.result c.tall_at.ensures (search rules)
