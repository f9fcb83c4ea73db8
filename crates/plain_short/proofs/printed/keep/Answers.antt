use Rattle.std.proofs.Common.{sym, ◌∙◌, arith}
use Rattle.plain_short.specs.Printed.{all-kept}
use Rattle.plain_short.proofs.printed.keep.Goals as goal

pub returns : goal.returns
returns c = all-kept c.requires (sym c.contains.ensures ∙ c.if-contains.false) (omega arith) c.put_all.ensures
