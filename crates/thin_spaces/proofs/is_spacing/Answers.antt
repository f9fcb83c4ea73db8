-- `thin_spaces::is_spacing` meets its contract, by the letters and what stands behind them. Assumes nothing.
use Rattle.thin_spaces.specs.Thin.{is_argument, spacing-is}
use Rattle.text_symbols.specs.Parts.{rest_of}
use lib.Dec.{ltb}
use mathlib.Core.Bool.{not, ◌&&◌}
use mathlib.Core.Path.{ap, ap₂, ◌∙◌}
use Rattle.thin_spaces.proofs.is_spacing.Goals as goal

pub returns : goal.returns
returns c =
    let s = c.args.s.now in
    let end = c.run_end-end.result in
    ap₂ (λ a b. ltb 0 end && (a && not b)) (c.is_argument.ensures ∙ ap is_argument (rest_of end s)) (c.is_atom_command.ensures)
    ∙ spacing-is c.run_end-end.ensures
