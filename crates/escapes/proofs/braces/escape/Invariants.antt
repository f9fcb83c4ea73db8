-- `escapes::braces::escape` meets its contract. The loop's invariant: what has been written and what is to be written from place i on are the whole.
-- Assumes nothing.
use Rattle.spec.specs.Result.{most_symbols}
use Rattle.escapes.specs.Braces.{escaped_from}
use Rattle.spec.specs.Finish.{escape_set_braces}
use Rattle.text.specs.Filling.{Filling}
use Rattle.text_symbols.specs.Parts.{part}
use lib.ListN.{length}
use mathlib.Core.Path.{◌≡◌}
use Prim.Native.Nat.{◌+◌, ◌*◌, ◌≤◌}
use Rattle.escapes.proofs.braces.escape.Given as goal

abbrev pub invariant-loop-i : goal.invariant-loop-i
invariant-loop-i l =
    (length l.work ≡ length l.initial.work) × (l.out.count ≤ l.initial.out.count + 2 * l.i)
    × Filling l.initial.work l.work l.initial.out l.out (escaped_from (part l.from l.n l.initial.work) l.i) (escape_set_braces (part l.from l.n l.initial.work))
