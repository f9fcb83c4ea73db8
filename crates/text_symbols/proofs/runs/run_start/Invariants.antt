-- `text_symbols::runs::run_start` meets its contract. The loop's invariant: only symbols of the class have been passed. Assumes nothing.
use Rattle.text_symbols.specs.Places.{before}
use Rattle.text_symbols.specs.Runs.{member}
use Rattle.spec.specs.Symbols.{drop_while}
use mathlib.Core.Path.{◌≡◌}
use Rattle.text_symbols.proofs.runs.run_start.Given as goal

abbrev pub invariant-loop-i : goal.invariant-loop-i
invariant-loop-i l = drop_while (member l.class) (before l.s l.end) ≡ drop_while (member l.class) (before l.s l.i)
