-- `plain_check::tokens::atom` meets its contract: by the test that led to each return. Assumes nothing.
use mathlib.Core.Path.{sym, ◌∙◌}
use Rattle.plain_check.specs.Rooms.{run_is, atom-nonempty}
use Rattle.plain_check.proofs.tokens.atom.Goals as goal

pub returns-then-is_atom : goal.returns-then-is_atom
returns-then-is_atom c = (
  atom-nonempty c.run_end-n.result c.args.s.now (sym c.is_atom.ensures ∙ c.if-is_atom.true),
  rw (← run_is c.run_end-n.ensures, ← c.is_atom.ensures, c.if-is_atom.true),
)

pub returns-else-is_atom : goal.returns-else-is_atom
returns-else-is_atom c = rw (← run_is c.run_end-n.ensures, ← c.is_atom.ensures, c.if-is_atom.false)
