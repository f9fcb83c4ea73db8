-- `quotes::rewrite_quotes` meets its contract. The loop's invariant: i symbols have been read, and `tail` is the end of what has been written. Assumes nothing.
use Rattle.spec.specs.Result.{most_symbols}
use Rattle.quotes.specs.Quotes.{Quoting}
use Rattle.text_symbols.specs.Parts.{part}
use Prim.Native.Nat.{◌-◌, ◌≤◌}
use Rattle.quotes.proofs.rewrite_quotes.Given as goal

abbrev pub invariant-loop-i : goal.invariant-loop-i
invariant-loop-i l = (l.i ≤ l.n) × Quoting (part l.from l.n l.initial.work) l.initial.work l.work l.initial.out l.out l.quoted l.tail l.i

abbrev pub decreases-loop-i : goal.decreases-loop-i
decreases-loop-i l = l.n - l.i
