-- `fraction_denominators::is_barred` meets its contract, by what the jump passes. Assumes nothing.
use Rattle.fraction_denominators.specs.After.{barred-group, barred-word}
use Rattle.fraction_denominators.specs.Past.{sign-is, sign-not}
use Rattle.fraction_operands.specs.Places.{until-ahead}
use Rattle.spec.specs.Symbols.{solidus, any, until}
use lib.Dec.{eqb}
use lib.ListN.{drop}
use mathlib.Core.Path.{sym, ap, ◌∙◌}
use Rattle.fraction_denominators.proofs.is_barred.Goals as goal

pub returns-then-symbol-eq40 : goal.returns-then-symbol-eq40
returns-then-symbol-eq40 c = sym (barred-group _ (sign-is c.args.s.now c.args.start 40 c.symbol.ensures c.if-symbol-eq40.true))

pub returns : goal.returns
returns c =
    let s = c.args.s.now in
    let word = c.word_after-word in
    let jump = c.after_lvert-jumped in
    let bare = sign-not c.args.s.now c.args.start 40 c.symbol.ensures c.if-symbol-eq40.false in
    let e = barred-word (drop c.args.start s) (drop word.result s) bare word.ensures.left in
    let passed = ap (until (drop word.result s)) (sym jump.ensures.left) ∙ until-ahead s word.result jump.result jump.ensures.from jump.ensures.within in
    c.has_solidus.ensures ∙ sym (e ∙ ap (any (λ x. eqb x solidus)) passed)
