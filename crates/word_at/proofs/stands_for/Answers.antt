-- `word_at::stands_for` meets its contract, for a word of two or more bytes: by whether a record has it for its name. Assumes nothing.
use native.Mathlib.Omega.{arith}
use Rattle.word_at.specs.Ways.{itself-unnamed, latex-named}
use Rattle.word_at.proofs.stands_for.Goals as goal

pub returns-in_default : goal.returns-in_default
returns-in_default c = itself-unnamed c.requires.checks c.args.word c.requires.within (omega arith) c.first_place-from.ensures c.in_default.ensures

pub returns : goal.returns
returns c = latex-named c.requires.checks c.args.word c.requires.within (omega arith) c.first_place-from.ensures c.in-Some.ensures
