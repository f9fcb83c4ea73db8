-- `fraction_denominators::find_fraction_part_after` meets its contract, by the first symbol and the order of the pieces. Assumes nothing.
use Rattle.fraction_denominators.specs.After.{after-group, after-word}
use Rattle.fraction_denominators.specs.Past.{sign-is, sign-not}
use Rattle.fraction_operands.specs.Places.{found-ahead-then}
use Rattle.spec.specs.Closing.{find_matching_paren}
use Rattle.spec.specs.Fractions.{grouped, braces, bracket, after_brackets}
use Rattle.spec.specs.Laws.Symbols.{past-drop}
use lib.ListN.{drop}
use mathlib.Core.Path.{sym, ap, ◌∙◌}
use native.Mathlib.Omega.{arith}
use Rattle.fraction_denominators.proofs.find_fraction_part_after.Goals as goal

pub returns-then-symbol-eq40 : goal.returns-then-symbol-eq40
returns-then-symbol-eq40 c =
    let s = c.args.s.now in let start = c.args.start in
    let e = after-group (drop start s) (sign-is c.args.s.now c.args.start 40 c.symbol.ensures c.if-symbol-eq40.true) in
    found-ahead-then (omega arith) c.requires c.grouped_after.ensures (e ∙ ap (λ l. grouped (find_matching_paren l)) (past-drop s start))

pub returns : goal.returns
returns c =
    let s = c.args.s.now in let start = c.args.start in
    let bare = sign-not c.args.s.now c.args.start 40 c.symbol.ensures c.if-symbol-eq40.false in
    let e = after-word (drop start s) (drop c.word_after-word.result s) bare c.word_after-word.ensures.left in
    let pieces = c.past_bracket.ensures.left ∙ ap bracket (c.past_braces-braces.ensures.left ∙ ap (braces 0) c.after_lvert.ensures.left) in
    found-ahead-then (omega arith) c.requires c.after_brackets.ensures (e ∙ ap (after_brackets (drop start s)) (sym pieces))
