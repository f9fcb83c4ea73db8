-- `table::wide_record_at` meets its contract: the header is cut off, one of its first four bits is set, or its three bytes say the lengths. Assumes nothing.
use mathlib.Core.Path.{sym}
use native.Mathlib.Omega.{arith}
use Prim.Native.Nat.{◌+◌, ◌<◌}
use lib.ListN.{get_or}
use Rattle.spec.specs.Table.{wide}
use Rattle.table.specs.Reading.{read-cut, read-header-bits, read-wide-header, fits-reads}
use Rattle.table.proofs.wide_record_at.Goals as goal

pub returns-then-table-at-lt3 : goal.returns-then-table-at-lt3
returns-then-table-at-lt3 c =
    record { read = sym (read-cut wide c.args.table.now c.args.at c.requires c.if-table-at-lt3.true); stands = tt }

pub returns-then-header-ge1048576 : goal.returns-then-header-ge1048576
returns-then-header-ge1048576 c =
    let middle : get_or c.args.table.now (c.args.at + 1) 0 < 256 = omega (arith, c.type_inv.table (c.args.at + 1)) in
    let low : get_or c.args.table.now (c.args.at + 2) 0 < 256 = omega (arith, c.type_inv.table (c.args.at + 2)) in
    record {
      read = sym (read-header-bits c.args.table.now c.args.at c.from_be_bytes-header.result (omega arith) middle low (omega arith) c.if-header-ge1048576.true);
      stands = tt;
    }

pub returns : goal.returns
returns c =
    let middle : get_or c.args.table.now (c.args.at + 1) 0 < 256 = omega (arith, c.type_inv.table (c.args.at + 1)) in
    let low : get_or c.args.table.now (c.args.at + 2) 0 < 256 = omega (arith, c.type_inv.table (c.args.at + 2)) in
    fits-reads c.record_behind.ensures (read-wide-header c.args.table.now c.args.at c.from_be_bytes-header.result (omega arith) middle low (omega arith) c.if-header-ge1048576.false)
