-- `thin_spaces::keeps_gap` meets its contract, by the last backslash. Assumes nothing.
use Rattle.thin_spaces.specs.Thin.{gap-found, gap_if}
use Rattle.spec.specs.Finish.{spacing}
use Rattle.text_symbols.specs.Parts.{rest_of}
use mathlib.Core.Bool.{not}
use mathlib.Core.Path.{sym, ap, ◌∙◌}
use native.Mathlib.Omega.{arith}
use Rattle.thin_spaces.proofs.keeps_gap.Goals as goal

pub returns-else-behind-eq0 : goal.returns-else-behind-eq0
returns-else-behind-eq0 c =
    let is-spacing = c.is_spacing.ensures ∙ ap spacing (rest_of c.run_start-behind.result c.args.s.now) in
    gap-found c.run_start-behind.ensures (omega arith) ∙ ap (λ b. gap_if (not b)) (sym is-spacing)
