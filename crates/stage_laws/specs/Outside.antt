-- Definitions leave no mark in the text: every block goes back to its own. Assumes nothing.
--     outside-passes    what `apply_definitions_outside_text` gives has no mark
--     each_bare, bare-each    a text without a mark, by its symbols
use Rattle.std.specs.Prelude.{◌≡◌, refl, false, not, List, [], ◌∷◌, ℕ}
use Rattle.std.proofs.Common.{ap}
use Rattle.std.proofs.lemmas.Bool.{not-true}
use Rattle.spec.specs.Symbols.{any}
use Rattle.spec.specs.Result.{Result, passed, refused, ◌then◌}
use Rattle.spec.specs.Held.{Held, hold_texts, put_back}
use Rattle.spec.specs.Table.{Definition, in_order}
use Rattle.spec.specs.Definitions.{apply_definitions, apply_definitions_outside_text}
use Rattle.spec.specs.Laws.Booleans.{or-neither}
use Rattle.held_laws.specs.Marks.{is_mark, has_mark}
use Rattle.held_laws.specs.InFull.{in-full-free}
use Rattle.held_laws.specs.Holding.{hold-texts-made}
use Rattle.held_laws.specs.Instances.{EverySound, definitions-made}
use Rattle.stage_laws.specs.Each.{Each, done, more}
use Rattle.stage_laws.specs.Calls.{unmarked}
use Rattle.stage_laws.specs.Stages.{Passes, pass, stop}

pub each_bare : {s : List ℕ} → Each unmarked s → has_mark s ≡ false
each_bare done = refl
each_bare (more {x} e a) = rw (not-true (is_mark x) e, any) (each_bare a)

pub bare-each : (s : List ℕ) → has_mark s ≡ false → Each unmarked s
bare-each [] e = done
bare-each (x ∷ s) e = let parts = or-neither (is_mark x) (has_mark s) e in more (ap not parts.0) (bare-each s parts.1)

pub outside-passes : (ds : List Definition) → EverySound (in_order ds) → (s : List ℕ) → Each unmarked s → Passes unmarked (apply_definitions_outside_text ds s)
unfolding apply_definitions_outside_text
outside-passes ds sound s a = go (apply_definitions (in_order ds) (hold_texts s)) refl
  where
    go : (r : Result Held) → apply_definitions (in_order ds) (hold_texts s) ≡ r → Passes unmarked (r then put_back)
    go (passed h) e = pass (bare-each _ (in-full-free (definitions-made (in_order ds) sound (hold-texts-made s (each_bare a)) e)))
    go (refused n) e = stop
