-- `table_faults::is_faulty` meets its contract. Assumes nothing.
use Rattle.table.specs.Reading.{first_place}
use Rattle.table.specs.Listed.{listed}
use Rattle.table_faults.specs.Faults.{refused-long, refused-else}
use Rattle.spec.specs.Table.{faulty}
use mathlib.Core.Bool.{◌||◌}
use mathlib.Core.Path.{sym, ap, ◌∙◌}
use native.Mathlib.Omega.{arith}
use Rattle.std.proofs.Common.{lt-ltb}
use Rattle.std.proofs.lemmas.Bool.{false≢true}
use Rattle.table_faults.proofs.is_faulty.Goals as goal
use Rattle.table_faults.proofs.is_faulty.Goals.{then-table-gt-MOST_BYTES, else-table-gt-MOST_BYTES}

pub returns-then-is_overfull : goal.returns-then-is_overfull
returns-then-is_overfull c =
    let s = c.args.table.now in
    c.if-is_overfull.true ∙ sym (elim c.if-table-gt-MOST_BYTES.branch [
      | then-table-gt-MOST_BYTES w ↦ refused-long s w.if-table-gt-MOST_BYTES.true
      | else-table-gt-MOST_BYTES w ↦ refused-else s (omega arith) ∙ ap (λ t. t || faulty (listed s (first_place s))) (sym w.is_overfull.ensures ∙ sym w.value-is ∙ c.if-is_overfull.true)
    ])

pub returns-else-is_overfull : goal.returns-else-is_overfull
returns-else-is_overfull c =
    let s = c.args.table.now in
    c.has_faulty_record.ensures ∙ sym (elim c.if-table-gt-MOST_BYTES.branch [
      | then-table-gt-MOST_BYTES w ↦ absurd (false≢true (sym c.if-is_overfull.false ∙ w.value-is ∙ lt-ltb _ _ w.if-table-gt-MOST_BYTES.true))
      | else-table-gt-MOST_BYTES w ↦ refused-else s (omega arith) ∙ ap (λ t. t || faulty (listed s (first_place s))) (sym w.is_overfull.ensures ∙ sym w.value-is ∙ c.if-is_overfull.false)
    ])
