-- `entry_ends::admission::has_foreign` meets its contract: some byte is foreign where not all are a formula's. Assumes nothing.
use Rattle.spec.specs.Symbols.{foreign}
use Rattle.text_symbols.specs.Runs.{any-not-all}
use mathlib.Core.Bool.{not}
use mathlib.Core.Path.{sym, ap, ◌∙◌}
use Rattle.entry_ends.proofs.admission.has_foreign.Goals as goal

pub returns : goal.returns
returns c = ap not c.all_in.ensures ∙ sym (any-not-all foreign c.args.formula.now)
