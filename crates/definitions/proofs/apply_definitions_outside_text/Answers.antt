-- `definitions::apply_definitions_outside_text` meets its contract: between holding out and putting back, the stages are those of the definitions in their order. Assumes nothing.
use mathlib.Core.Path.{ap}
use mathlib.Core.List.{[], ◌∷◌, map}
use Rattle.spec.specs.Held.{hold_texts}
use Rattle.spec.specs.Table.{definitions, in_order}
use Rattle.spec.specs.Definitions.{apply_definitions, apply_definitions_outside_text}
use Rattle.spec.specs.Matches.{defined_match, text_opening}
use Rattle.text_symbols.specs.Parts.{part}
use Rattle.text.specs.Stage.{shown}
use Rattle.table.specs.Sound.{not-refused}
use Rattle.held_laws.specs.Instances.{order-sound}
use Rattle.held_stages.specs.Carried.{carries-staged, outside-answered, texts-unused, outside-untouched}
use Rattle.definitions.specs.Applying.{definitions-held, definitions-kept, outside-by-held}
use Rattle.definitions.proofs.apply_definitions_outside_text.Goals as goal

pub put_all_back-requires : goal.put_all_back-requires
put_all_back-requires c =
    let from = c.hold_texts-held.ensures.held_from in
    let source = part c.in_ok-place.place.at c.in_ok-place.place.n c.args.work.now in
    let extra = c.hold_texts-held.result.extra in
    let known = not-refused (definitions c.args.table.now) c.requires.not_refused in
    let kept = definitions-kept extra (in_order known.0) (order-sound c.args.table.now known.0 known.1) (hold_texts source) from.extra from.well-made in
    let staged = c.apply_definitions-defined.ensures.staged_within known.0 known.1 in
    record { held = hold_texts source; carries = carries-staged from staged kept }

pub returns : goal.returns
returns c =
    let from = c.hold_texts-held.ensures.held_from in
    let source = part c.in_ok-place.place.at c.in_ok-place.place.n c.args.work.now in
    let extra = c.hold_texts-held.result.extra in
    record {
      answered = λ ds e.
          let sound = order-sound c.args.table.now ds e in
          let kept = definitions-kept extra (in_order ds) sound (hold_texts source) from.extra from.well-made in
          let staged = c.apply_definitions-defined.ensures.staged_within ds e in
          outside-answered from staged kept (apply_definitions (in_order ds)) (definitions-held extra (in_order ds) sound (hold_texts source) from.extra from.well-made)
          (ap (λ q. shown q c.args.work.now) c.in_ok-place.was) (c.put_all_back.ensures.answered (hold_texts source) (carries-staged from staged kept)) (apply_definitions_outside_text ds) (outside-by-held ds source);
      untouched = λ ds e.
          outside-untouched (text_opening ∷ []) (map defined_match ds) c.in_ok-place.was c.hold_texts-held.ensures.untouched (c.apply_definitions-defined.ensures.untouched ds e)
          (texts-unused source from) c.put_all_back.ensures.work_unchanged;
    }
