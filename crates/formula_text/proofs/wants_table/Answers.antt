-- `formula_text::wants_table` meets its contract: the first line that was read is the input's. Assumes nothing.
use mathlib.Core.Path.{ap, ◌∙◌}
use borrow.Author.Rules.{rules}
use Rattle.spec.specs.Program.{first_line}
use Rattle.formula_input.specs.Input.{is_asked}
use Rattle.formula_text.specs.Runs.{some-asked, line_read}
use Rattle.formula_text.proofs.wants_table.Goals as goal

pub returns : goal.returns
returns c whole r = c.is_some.ensures ∙ some-asked c.first_line.result ∙ ap is_asked (c.first_line.ensures ∙ ap first_line c.front.ensures ∙ line_read c.args.input.now c.args.n (search rules) whole r)
