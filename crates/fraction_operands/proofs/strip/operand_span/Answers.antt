-- `fraction_operands::strip::operand_span` meets its contract, by the operand's length. Assumes nothing.
use Rattle.fraction_operands.specs.Strip.{span-whole, span-inner}
use lib.ListN.{length}
use mathlib.Core.Path.{ap}
use native.Mathlib.Omega.{arith}
use Rattle.fraction_operands.proofs.strip.operand_span.Goals as goal

pub returns-then-n-span : goal.returns-then-n-span
returns-then-n-span c = let n = ap length c.strip_outer_parens-n.ensures in span-inner c.trimmed-span.ensures (omega arith)

pub returns : goal.returns
returns c = let n = ap length c.strip_outer_parens-n.ensures in span-whole c.trimmed-span.ensures (omega arith)
