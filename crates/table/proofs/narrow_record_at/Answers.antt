-- `table::narrow_record_at` meets its contract: the header is cut off, or its two bytes say the lengths. Assumes nothing.
use mathlib.Core.Path.{sym}
use native.Mathlib.Omega.{arith}
use Prim.Native.Nat.{◌+◌, ◌<◌}
use lib.ListN.{get_or}
use Rattle.spec.specs.Table.{narrow}
use Rattle.table.specs.Reading.{read-cut, read-narrow-header, fits-reads}
use Rattle.table.proofs.narrow_record_at.Goals as goal

pub returns-then-table-at-lt2 : goal.returns-then-table-at-lt2
returns-then-table-at-lt2 c =
    record { read = sym (read-cut narrow c.args.table.now c.args.at c.requires c.if-table-at-lt2.true); stands = tt }

pub returns : goal.returns
returns c =
    let low : get_or c.args.table.now (c.args.at + 1) 0 < 256 = omega (arith, c.type_inv.table (c.args.at + 1)) in
    fits-reads c.record_behind.ensures (read-narrow-header c.args.table.now c.args.at c.from-header.result (omega arith) low (omega arith))
