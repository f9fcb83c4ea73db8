-- `table_faults::is_faulty_record` meets its contract, where the record has no fault of its own. Assumes nothing.
use Rattle.table.specs.Reading.{definition_at}
use Rattle.table.specs.Listed.{listed}
use Rattle.table_faults.specs.Faults.{first-by-others}
use Rattle.table_names.specs.Named.{finds-named}
use Rattle.spec.specs.Table.{faulty_name, faulty_latex, named}
use mathlib.Core.Path.{sym, ap, ◌∙◌}
use Rattle.std.proofs.lemmas.Bool.{false≢true}
use Rattle.table_faults.proofs.is_faulty_record.Goals as goal
use Rattle.table_faults.proofs.is_faulty_record.Goals.{then-is_faulty_name, else-is_faulty_name}

pub returns-else-is_faulty_latex : goal.returns-else-is_faulty_latex
returns-else-is_faulty_latex c =
    let behind = listed c.args.table.now c.args.found.next in
    elim c.if-is_faulty_name.branch [
      | then-is_faulty_name w ↦ absurd (false≢true (sym c.if-is_faulty_latex.false ∙ w.value-is ∙ w.if-is_faulty_name.true))
      | else-is_faulty_name w ↦
          c.is_some.ensures ∙ finds-named c.find_named.ensures ∙ ap (λ n. named n behind) c.name_in-name.ensures
          ∙ sym (first-by-others (definition_at c.args.table.now c.args.found) behind
          (ap faulty_name (sym c.name_in-name.ensures) ∙ sym c.is_faulty_name.ensures ∙ w.if-is_faulty_name.false)
          (ap faulty_latex (sym w.latex_in.ensures) ∙ sym w.is_faulty_latex.ensures ∙ sym w.value-is ∙ c.if-is_faulty_latex.false))
    ]
