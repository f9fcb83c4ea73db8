-- `text_closing::backward::find_closer_back` meets its contract. The loop's invariant: the symbols passed have not closed the bracket, and those before them decide. Assumes nothing.
use Rattle.text_symbols.specs.Places.{before}
use Rattle.text_closing.specs.Closing.{close_from}
use Rattle.spec.specs.Closing.{close}
use lib.ListN.{length}
use mathlib.Core.List.{reverse}
use mathlib.Core.Path.{◌≡◌}
use Prim.Native.Nat.{◌+◌, ◌≤◌, ◌<◌}
use Rattle.text_closing.proofs.backward.find_closer_back.Given as goal

abbrev pub invariant-loop-i : goal.invariant-loop-i
invariant-loop-i l =
    (l.tally.opener ≡ l.opener) × (l.tally.closer ≡ l.closer) × (0 < l.tally.depth) × (l.tally.depth + l.i ≤ length l.s + 1)
    × (close l.opener l.closer 0 (reverse l.s) ≡ close_from l.opener l.closer l.tally.depth (before l.s l.i))
