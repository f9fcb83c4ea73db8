-- `text_symbols::spans::trim` meets its contract, by what its two callees ensure. Assumes nothing.
use Rattle.text_symbols.specs.Runs.{member}
use Rattle.spec.specs.Symbols.{drop_while_end}
use native.Mathlib.Omega.{arith}
use mathlib.Core.Path.{ap, ◌∙◌}
use Rattle.text_symbols.proofs.spans.trim.Goals as goal

pub returns : goal.returns
returns c =
    let a = c.skip.ensures in
    let b = c.skip_end.ensures in
    record { from = omega arith; order = b.order; to = omega arith; text = b.text ∙ ap (drop_while_end (member c.args.class)) a.text }
