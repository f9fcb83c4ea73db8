-- Nothing of a held block changes while names and words are looked for: stages change the text between the marks alone. Assumes nothing.
--     definitions-leave-blocks, rows-leave-blocks    what a run of definitions holds, and a run of a table's rows
use Rattle.std.specs.Prelude.{◌≡◌, Bool, true, false, List, [], ◌∷◌, eqb, length}
use Rattle.std.proofs.Common.{sym, ap, ◌∙◌}
use Rattle.spec.specs.Sweep.{Rule, sweep}
use Rattle.spec.specs.Result.{Result, passed, ◌then◌}
use Rattle.spec.specs.Held.{Held, with_text, held_stage}
use Rattle.spec.specs.Table.{Definition}
use Rattle.spec.specs.Definitions.{apply_definition, apply_definitions}
use Rattle.spec.specs.Rows.{Row}
use Rattle.spec.specs.Words.{held_rows}
use Rattle.held_laws.specs.Instances.{passed-one, stage-made}

same-held : {h g : Held} → passed h ≡ passed g → g ≡ with_text h g.text
same-held {h} e = sym (passed-one e) ∙ ap (λ (g : Held). with_text h g.text) (passed-one e)

pub definitions-leave-blocks : (ds : List Definition) (h g : Held) → apply_definitions ds h ≡ passed g → g ≡ with_text h g.text
unfolding apply_definitions apply_definition
definitions-leave-blocks [] h g e = same-held e
definitions-leave-blocks (d ∷ ds) h g e = go (eqb (length d.name) 1) e (λ h. definitions-leave-blocks ds h g)
  where
    go : (t : Bool) → ◌≡◌ {A = Result Held} (elim t [ true ↦ apply_definitions ds h | false ↦ held_stage (apply_definition d) h then apply_definitions ds ]) (passed g)
        → ((h : Held) → apply_definitions ds h ≡ passed g → g ≡ with_text h g.text) → g ≡ with_text h g.text
    go true e more = more h e
    go false e more = more (with_text h (apply_definition d h.text)) (stage-made (apply_definition d) h (apply_definitions ds) e)

pub rows-leave-blocks : (rule : Row → Rule) (rs : List Row) (h g : Held) → held_rows rule rs h ≡ passed g → g ≡ with_text h g.text
unfolding held_rows
rows-leave-blocks rule [] h g e = same-held e
rows-leave-blocks rule (r ∷ rs) h g e = rows-leave-blocks rule rs (with_text h (sweep (rule r) 0 0 h.text)) g (stage-made (sweep (rule r) 0 0) h (held_rows rule rs) e)
