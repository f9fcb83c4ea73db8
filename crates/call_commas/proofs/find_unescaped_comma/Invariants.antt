-- `call_commas::find_unescaped_comma` meets its contract. The loop's invariant: every comma passed is escaped, and the rest decides. Assumes nothing.
use Rattle.spec.specs.Closing.{unescaped_behind}
use lib.ListN.{drop}
use mathlib.Core.Path.{◌≡◌}
use Rattle.call_commas.proofs.find_unescaped_comma.Given as goal

abbrev pub invariant-loop-i : goal.invariant-loop-i
invariant-loop-i l = unescaped_behind 0 l.s ≡ unescaped_behind l.previous (drop l.i l.s)
