-- `call_quotes::find_call_end` meets its contract, as `find_closer` does: the text is the one that is seen, and the search stands outside quotes.
-- Assumes nothing.
use Rattle.text_closing.specs.Closing.{Tallied}
use Rattle.call_quotes.specs.Quotes.{Sees}
use Rattle.spec.specs.Closing.{over_quotes}
use lib.ListN.{length}
use mathlib.Core.Bool.{false}
use Prim.Native.Nat.{◌-◌}
use Prim.Native.Char.{code}
use Rattle.call_quotes.proofs.find_call_end.Given as goal

abbrev pub invariant-loop-i : goal.invariant-loop-i
invariant-loop-i l = Tallied (code "(") (code ")") (over_quotes l.s) l.tally l.i × Sees (over_quotes l.s) l.s l.i false

abbrev pub decreases-loop-i : goal.decreases-loop-i
decreases-loop-i l = length l.s - l.i
