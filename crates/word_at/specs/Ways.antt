-- Each way through the functions, by what they ensure. Assumes nothing.
--     itself-unnamed, ..    what a word of two or more bytes stands for
--     points-nowhere, ..    whether there is a word at the place
--     finds-refused, ..     whether the numbers 2, 1 and 3 let the call pass
use Rattle.std.specs.Prelude.{◌≡◌, true, false, List, [], ℕ, ◌-◌, ◌≤◌, length, get_or, drop}
use Rattle.std.proofs.Common.{sym, ap₂, ◌∙◌, arith, length-drop, le-ltb}
use Rattle.std.proofs.Math.Path.{ap}
use Rattle.std.proofs.Math.Option
use Rattle.spec.specs.Symbols.{alnum, drop_while}
use Rattle.spec.specs.Result.{passed, ◌then◌}
use Rattle.spec.specs.Table.{definitions}
use Rattle.spec.specs.Pipeline.{definitions_or}
use Rattle.spec.specs.WordAt.{in_formula, word_start, word_end, stands_for, pointed, word_at}
use Rattle.spec.specs.Laws.Symbols.{head-drop}
use Rattle.spec.specs.Laws.Table.{definitions-some}
use Rattle.spec.specs.Laws.WordAt.{pointed-inside}
use Rattle.text_symbols.specs.Parts.{part}
use Rattle.text_symbols.specs.Places.{before, length_before, AheadTo, BackTo}
use Rattle.text.specs.declared.Refusal.{Refusal}
use Rattle.text.specs.declared.Refusal.TheVariants.{NoWord}
use Rattle.table.specs.Reading.{first_place}
use Rattle.table.specs.Listed.{listed, listed-records}
use Rattle.table.specs.Sound.{not-refused}
use Rattle.table.specs.declared.Record.{Record}
use Rattle.std.specs.Prelude.{Option as Maybe, Some, None, Ok, Err}
use Rattle.text_symbols.specs.Trim.{Within}
use Rattle.text_symbols.specs.declared.Span.{Span}
use Rattle.table_names.specs.Named.{latex_part, FindsNamed}
use Rattle.entry_ends.specs.Answer.{Checks}
use Rattle.entry_ends.specs.Ways.{checks-sound}
use Rattle.word_at.specs.Parts.{Found, FindsWord}
use Rattle.word_at.specs.declared.WordPlace.TheVariants.{InFormula, InTable}

-- ---- what a word stands for
module _ {formula table : List ℕ} (passes : Checks formula table (Ok tt)) where
  defined-listed : definitions_or table ≡ listed table (first_place table)
  defined-listed =
      let sound = not-refused (definitions table) (checks-sound passes) in
      ap (λ o. Option.get_or o []) sound.1 ∙ sym (listed-records table sound.0 (definitions-some table sound.0 sound.1).0)

  module _ (w : Span) (within : Within formula w) where
    module _ (long : 2 ≤ w.end - w.start) {from : ℕ} (first : from ≡ first_place table) where
      named-for : {r : Maybe Record} → FindsNamed table from (part w.start (w.end - w.start) formula) r → Option.get_or (latex_part r) (in_formula w.start (w.end - w.start)) ≡ stands_for formula table w.start (w.end - w.start)
      named-for f =
          rw (le-ltb (w.end - w.start) 2 long, stands_for, defined-listed, ← first) (ap (λ o. Option.get_or o (in_formula w.start (w.end - w.start))) f.part)

      pub itself-unnamed : FindsNamed table from (part w.start (w.end - w.start) formula) None → FindsWord formula table (passed (stands_for formula table w.start (w.end - w.start))) (Ok (InFormula w))
      itself-unnamed f = record { answers = ap passed (named-for f); lies = within }

      pub latex-named : {q : Record} → FindsNamed table from (part w.start (w.end - w.start) formula) (Some q) → FindsWord formula table (passed (stands_for formula table w.start (w.end - w.start))) (Ok (InTable (record { start = q.latex; end = q.next })))
      latex-named f = let l = f.stands.0 in record { answers = ap passed (named-for f); lies = record { order = l.written; inside = l.inside } }

-- ---- whether there is a word at the place
pub points-nowhere : {formula table : List ℕ} (place : ℕ) → alnum (get_or formula place 0) ≡ false → FindsWord formula table (pointed table place formula) (Err NoWord)
points-nowhere {formula} place e = record { answers = sym (rw (head-drop formula place, e)); lies = tt }

module _ {formula : List ℕ} (place : ℕ) (e : alnum (get_or formula place 0) ≡ true) {start end : ℕ} (b : BackTo formula place start (drop_while alnum (before formula place)))
    (a : AheadTo formula place end (drop_while alnum (drop place formula))) where
  word-starts : word_start formula place ≡ start
  word-starts = let h = pointed-inside formula place e in let t = b.to in ap length (sym b.left) ∙ length_before formula start (omega arith)

  word-ends : word_end formula place ≡ end
  word-ends = let h = a.within in let l = length-drop end formula in let m = ap length a.left in omega arith

  pub points-word : {table : List ℕ} {w : Found} → FindsWord formula table (passed (stands_for formula table start (end - start))) w → FindsWord formula table (pointed table place formula) w
  points-word {table} f =
      record {
        answers = f.answers
            ∙ sym (rw (head-drop formula place, e) (ap₂ (λ at to. passed (stands_for formula table at (to - at))) word-starts word-ends));
        lies = f.lies;
      }

-- ---- whether the call passes
module _ {formula table : List ℕ} (place : ℕ) where
  pub finds-word : Checks formula table (Ok tt) → {w : Found} → FindsWord formula table (pointed table place formula) w → FindsWord formula table (word_at formula table place) w
  unfolding word_at
  finds-word c f = record { answers = f.answers ∙ ap (λ r. r then pointed table place) c.answers; lies = f.lies }

  pub finds-refused : {why : Refusal} → Checks formula table (Err why) → FindsWord formula table (word_at formula table place) (Err why)
  unfolding word_at
  finds-refused c = record { answers = ap (λ r. r then pointed table place) c.answers; lies = tt }

-- both, for the search
pub ruleset finds = (finds-word, finds-refused)
