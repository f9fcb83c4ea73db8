-- `table_faults::is_faulty_latex` meets its contract: some byte is wrong where not all are right. Assumes nothing.
use Rattle.spec.specs.Symbols.{is, foreign}
use Rattle.text_symbols.specs.Runs.{any-not-all}
use mathlib.Core.Bool.{not, ◌||◌}
use mathlib.Core.Path.{sym, ap, ◌∙◌}
use Rattle.table_faults.proofs.is_faulty_latex.Goals as goal

pub returns : goal.returns
returns c = ap not c.all_in.ensures ∙ sym (any-not-all (λ x. foreign x || is "$" x) c.args.latex.now)
