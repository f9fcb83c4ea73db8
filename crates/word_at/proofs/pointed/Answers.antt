-- `word_at::pointed` meets its contract: by whether a letter or a digit stands at the place. Assumes nothing.
use Rattle.spec.specs.Symbols.{alnum}
use mathlib.Core.Path.{sym, ap, ◌∙◌}
use Rattle.word_at.specs.Ways.{points-nowhere, points-word}
use Rattle.word_at.proofs.pointed.Goals as goal

pub returns-then-not-is_alnum : goal.returns-then-not-is_alnum
returns-then-not-is_alnum c = points-nowhere c.args.place (ap alnum (sym c.symbol.ensures) ∙ sym c.is_alnum.ensures ∙ c.if-not-is_alnum.true)

pub returns : goal.returns
returns c =
    let on_word = ap alnum (sym c.symbol.ensures) ∙ sym c.is_alnum.ensures ∙ c.if-not-is_alnum.false in
    points-word c.args.place on_word c.run_start.ensures c.run_end.ensures c.stands_for.ensures
