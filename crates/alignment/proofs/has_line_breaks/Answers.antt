-- `alignment::has_line_breaks` meets its contract. Assumes nothing.
use Rattle.spec.specs.Symbols.{bytes}
use Rattle.slice_laws.specs.Tests.{ends-slice}
use Rattle.alignment.proofs.has_line_breaks.Goals as goal

pub returns : goal.returns
returns c = rw (c.contains.ensures, c.ends_with.ensures.value, ends-slice (bytes " \\") c.args.s.now)
