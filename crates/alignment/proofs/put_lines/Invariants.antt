-- `alignment::put_lines` meets its contract. The loop's invariant: what has been written and what is to be written from place i on are the whole.
-- Assumes nothing.
use Rattle.alignment.specs.Aligned.{lined_to}
use Rattle.text.specs.Filling.{Filling}
use Rattle.text_symbols.specs.Parts.{part}
use lib.ListN.{length}
use mathlib.Core.Path.{◌≡◌}
use Prim.Native.Nat.{◌+◌, ◌-◌, ◌*◌, ◌≤◌}
use Rattle.alignment.proofs.put_lines.Given as goal

abbrev pub invariant-loop-i : goal.invariant-loop-i
invariant-loop-i l =
    (length l.work ≡ length l.initial.work) × (l.total.count ≤ l.initial.total.count + 2 * (l.i - l.fn.lines.start))
    × Filling l.initial.work l.work l.initial.total l.total (lined_to (part l.from l.n l.initial.work) l.fn.lines.end l.i) (lined_to (part l.from l.n l.initial.work) l.fn.lines.end l.fn.lines.start)
