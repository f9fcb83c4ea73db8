-- `sizing::size` calls itself on a shorter part, so its measure is the number of symbols. The loop's invariant: what has been written and what is
-- to be written from place i on are the whole. Assumes nothing.
use Prim.Native.Nat.{◌+◌, ◌-◌, ◌*◌, ◌≤◌}
use mathlib.Core.Path.{◌≡◌}
use lib.ListN.{length}
use Rattle.spec.specs.Finish.{size_delimiters_to_content}
use Rattle.text.specs.Filling.{Filling}
use Rattle.text_symbols.specs.Parts.{part}
use Rattle.sizing.specs.Pieces.{sized_at}
use Rattle.sizing.proofs.+size.Given as goal

abbrev pub decreases-size : goal.decreases-size
decreases-size l = l.source.n

abbrev pub invariant-loop-i : goal.invariant-loop-i
invariant-loop-i l =
    (l.i ≤ l.n) × (l.end ≡ l.from + l.n) × (length l.work ≡ length l.initial.work) × (l.out.count ≤ l.initial.out.count + 7 * l.i)
    × Filling l.initial.work l.work l.initial.out l.out (sized_at l.field (part l.from l.n l.initial.work) l.i) (size_delimiters_to_content l.field (part l.from l.n l.initial.work))

abbrev pub decreases-loop-i : goal.decreases-loop-i
decreases-loop-i l = l.n - l.i
