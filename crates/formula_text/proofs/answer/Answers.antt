-- `formula_text::answer` meets its contract: what was read stands for all that there is to read. Assumes nothing.
use mathlib.Core.Path.{◌≡◌, refl, sym, ap, ◌∙◌}
use lib.ListN.{take}
use borrow.Author.Rules.{rules}
use Rattle.spec.specs.Program.{first_line}
use Rattle.formula_input.specs.Input.{asked}
use Rattle.formula_text.specs.Runs.{prints-neither, prints-converted, prints-within}
use Rattle.formula_text.proofs.answer.Goals as goal

pub returns : goal.returns
returns c =
    let line : asked c.first_line.result ≡ first_line (take c.args.n c.args.input.now) = c.first_line.ensures ∙ ap first_line c.front-read.ensures in
    let converted = rw (c.formula-formula.ensures, c.front-read.ensures, c.front.ensures) at c.convert.ensures in
    let p = prints-converted c.args.input.now c.args.n (search rules) c.args.table.now c.args.m (search rules) (ap asked (sym c.in-Some.is) ∙ line) converted in
    record { prints = p; upper_bound = prints-within c.args.input.now c.args.n c.args.table.now c.args.m p }

pub returns-in_default : goal.returns-in_default
returns-in_default c =
    let line : asked c.first_line.result ≡ first_line (take c.args.n c.args.input.now) = c.first_line.ensures ∙ ap first_line c.front-read.ensures in
    let p = prints-neither c.args.input.now c.args.n (search rules) c.args.table.now c.args.m (ap asked (sym c.in_default.is) ∙ line) c.put_neither.ensures refl refl in
    record { prints = p; upper_bound = prints-within c.args.input.now c.args.n c.args.table.now c.args.m p }
