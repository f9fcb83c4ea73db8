-- `name_words::convert_words` meets its contract: between holding out and putting back, the rows are those of the two tables. Assumes nothing.
use mathlib.Core.Path.{ap}
use mathlib.Core.List.{[], ◌∷◌, ◌++◌, map}
use Rattle.spec.specs.Held.{hold_both}
use Rattle.spec.specs.Rows.{greek_letters, word_mappings}
use Rattle.spec.specs.Words.{convert_words}
use Rattle.spec.specs.Matches.{greek_match, word_or_literal_match, text_opening, roman_opening}
use Rattle.text_symbols.specs.Parts.{part}
use Rattle.text.specs.Stage.{shown}
use Rattle.text.specs.Untouched.{untouched-then}
use Rattle.held_stages.specs.Carried.{carries-staged, outside-answered, both-unused, outside-untouched}
use Rattle.name_words.specs.Outside.{held_both, words-held, words-kept, words-by-held, within-then}
use Rattle.name_words.proofs.convert_words.Goals as goal

pub put_all_back-requires : goal.put_all_back-requires
put_all_back-requires c =
    let from = c.hold_both-held.ensures.held_from in
    let source = part c.in_ok-place.place.at c.in_ok-place.place.n c.args.work.now in
    let kept = words-kept c.hold_both-held.result.extra (hold_both source) from.extra from.well-made in
    let staged = within-then (rw c.greek.ensures at c.apply_rows-greek.ensures.staged_within) c.apply_rows-words.ensures.staged_within in
    record { held = hold_both source; carries = carries-staged from staged kept }

pub returns : goal.returns
returns c =
    let from = c.hold_both-held.ensures.held_from in
    let source = part c.in_ok-place.place.at c.in_ok-place.place.n c.args.work.now in
    let kept = words-kept c.hold_both-held.result.extra (hold_both source) from.extra from.well-made in
    let staged = within-then (rw c.greek.ensures at c.apply_rows-greek.ensures.staged_within) c.apply_rows-words.ensures.staged_within in
    let untouched = untouched-then (map greek_match greek_letters) (map word_or_literal_match word_mappings) (rw c.greek.ensures at c.apply_rows-greek.ensures.untouched) c.apply_rows-words.ensures.untouched in record {
      answered = outside-answered from staged kept held_both (words-held c.hold_both-held.result.extra (hold_both source) from.extra from.well-made)
          (ap (λ q. shown q c.args.work.now) c.in_ok-place.was) (c.put_all_back.ensures.answered (hold_both source) (carries-staged from staged kept)) convert_words (words-by-held source);
      untouched = outside-untouched (text_opening ∷ (roman_opening ∷ [])) (map greek_match greek_letters ++ map word_or_literal_match word_mappings) c.in_ok-place.was c.hold_both-held.ensures.untouched untouched
          (both-unused source from) c.put_all_back.ensures.work_unchanged;
    }
