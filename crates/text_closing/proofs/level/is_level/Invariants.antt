-- `text_closing::level::is_level` meets its contract. The loop's invariant: no bracket that was passed closed too many, and the rest decides. Assumes nothing.
use Rattle.spec.specs.Closing.{level}
use lib.ListN.{drop}
use mathlib.Core.Path.{◌≡◌}
use Prim.Native.Nat.{◌-◌, ◌+◌, ◌≤◌, ◌<◌}
use Rattle.text_closing.proofs.level.is_level.Given as goal

abbrev pub invariant-loop-b : goal.invariant-loop-b
invariant-loop-b l =
    (l.tally.opener ≡ l.opener) × (l.tally.closer ≡ l.closer) × (0 < l.tally.depth) × (l.tally.depth ≤ l.b-index + 1)
    × (level l.opener l.closer 0 l.s ≡ level l.opener l.closer (l.tally.depth - 1) (drop l.b-index l.s))
