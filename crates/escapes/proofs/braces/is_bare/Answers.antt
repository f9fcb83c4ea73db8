-- `escapes::braces::is_bare` meets its contract, by the symbol. Assumes nothing.
use Rattle.escapes.specs.Braces.{bare-opener, bare-closer, bare-other}
use Rattle.spec.specs.Finish.{groups_behind}
use mathlib.Core.Path.{sym, ap, ◌∙◌}
use native.Mathlib.Omega.{arith}
use Rattle.escapes.proofs.braces.is_bare.Goals as goal

pub returns-in-123 : goal.returns-in-123
returns-in-123 c =
    c.is_grouping.ensures ∙ ap groups_behind c.symbol_before.ensures ∙ sym (bare-opener c.args.s.now c.args.i (omega arith) c.in-123.is)

pub returns-in-125 : goal.returns-in-125
returns-in-125 c = c.open_groups.ensures ∙ sym (bare-closer c.args.s.now c.args.i (omega arith) c.in-125.is)

pub returns-in_default : goal.returns-in_default
returns-in_default c = sym (bare-other c.args.s.now c.args.i (omega arith) (λ e. omega arith) (λ e. omega arith))
