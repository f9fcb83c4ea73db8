-- The readers, one cycle of calls: what each measures, and what its loop keeps. A reader's measure is five times what is left to read, and
-- its rank: each calls those below it on the same text, and those above it on a shorter one. The rank is the number in its contract.
-- Assumes nothing.
use Prim.Native.Nat.{◌+◌, ◌*◌}
use lib.ListN.{length}
use Rattle.plain_check.specs.Steps.{sums, products}
use Rattle.plain_check.specs.Series.{Ahead}
use Rattle.plain_check.proofs.readers.+readers.Given as goal

abbrev pub decreases-sum : goal.decreases-sum
decreases-sum l = 5 * length l.s.now + 4

abbrev pub decreases-product : goal.decreases-product
decreases-product l = 5 * length l.s.now + 3

abbrev pub decreases-factor : goal.decreases-factor
decreases-factor l = 5 * length l.s.now + 2

abbrev pub decreases-operand : goal.decreases-operand
decreases-operand l = 5 * length l.s.now + 1

abbrev pub decreases-scripts : goal.decreases-scripts
decreases-scripts l = 5 * length l.s.now + 1

abbrev pub decreases-script : goal.decreases-script
decreases-script l = 5 * length l.s.now

-- sums and products are series, read part by part
abbrev pub invariant-sum-loop-p : goal.invariant-sum-loop-p
invariant-sum-loop-p l = Ahead sums l.s l.front l.t

abbrev pub decreases-sum-loop-p : goal.decreases-sum-loop-p
decreases-sum-loop-p l = length l.t

abbrev pub invariant-product-loop-p : goal.invariant-product-loop-p
invariant-product-loop-p l = Ahead products l.s l.front l.t

abbrev pub decreases-product-loop-p : goal.decreases-product-loop-p
decreases-product-loop-p l = length l.t
