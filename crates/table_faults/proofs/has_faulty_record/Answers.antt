-- `table_faults::has_faulty_record` meets its contract. The loop's invariant: the records from `at` on decide. Assumes nothing.
use Rattle.table_faults.specs.Faults.{faulty-cons}
use Rattle.table.specs.Listed.{listed, Heads}
use Rattle.table.specs.Reading.{definition_at}
use Rattle.table.specs.declared.Record.{Record}
use Rattle.spec.specs.Table.{faulty}
use mathlib.Core.Bool.{Bool, ◌||◌}
use mathlib.Core.Path.{◌≡◌, sym, ap, ◌∙◌}
use mathlib.Core.List.{List}
use Prim.Native.Nat.{ℕ}
use Rattle.table_faults.specs.Faults.{faulty_first}
use Rattle.table_faults.proofs.has_faulty_record.Goals as goal

-- the record that has been read decides, if it is faulty, and else those behind it
decides : {s : List ℕ} {at : ℕ} {found : Record} {b t whole : Bool} → whole ≡ faulty (listed s at) → Heads s at found
    → b ≡ faulty_first (definition_at s found) (listed s found.next) → b ≡ t → whole ≡ (t || faulty (listed s found.next))
decides {s} {found = found} same here tested e =
    same ∙ ap faulty here.first ∙ faulty-cons (definition_at s found) (listed s found.next) ∙ ap (λ u. u || faulty (listed s found.next)) (sym tested ∙ e)

pub returns-then-is_faulty_record : goal.returns-then-is_faulty_record
returns-then-is_faulty_record c = sym (decides c.loop-found.invariant c.in-Some.ensures.0 c.is_faulty_record.ensures c.if-is_faulty_record.true)

pub loop-found-preserved : goal.loop-found-preserved
loop-found-preserved c = decides c.loop-found.invariant c.in-Some.ensures.0 c.is_faulty_record.ensures c.if-is_faulty_record.false

pub returns : goal.returns
unfolding faulty
returns c = sym (c.loop-found.invariant ∙ ap faulty c.in_default.ensures)
