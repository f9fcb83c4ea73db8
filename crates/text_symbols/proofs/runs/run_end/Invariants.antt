-- `text_symbols::runs::run_end` meets its contract. The loop's invariant: only symbols of the class have been passed. Assumes nothing.
use Rattle.text_symbols.specs.Runs.{member}
use Rattle.spec.specs.Symbols.{drop_while}
use lib.ListN.{drop}
use mathlib.Core.Path.{◌≡◌}
use Rattle.text_symbols.proofs.runs.run_end.Given as goal

abbrev pub invariant-loop-i : goal.invariant-loop-i
invariant-loop-i l = drop_while (member l.class) (drop l.start l.s) ≡ drop_while (member l.class) (drop l.i l.s)
