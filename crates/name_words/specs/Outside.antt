-- Greek names and words, while blocks are held out.
--     rows-held       a table's stages on a text with marks are those on what is held
--     words-held      the same of both tables
-- Assumes nothing.
use Rattle.std.specs.Prelude.{◌≡◌, Bool, cond, ℕ, ◌+◌, ltb, length}
use Rattle.std.proofs.Math.Path.{refl, ap}
use Rattle.std.proofs.Common.{◌∙◌}
use Rattle.std.proofs.Math.Bool.{true, false}
use mathlib.Core.List.{List, [], ◌∷◌}
use Rattle.spec.specs.Sweep.{Rule, sweep}
use Rattle.spec.specs.Result.{Result, passed, refused, ◌then◌, most_symbols}
use Rattle.spec.specs.Rows.{Row, greek_letters, word_mappings}
use Rattle.spec.specs.Held.{Held, with_text, hold_both, put_back}
use Rattle.spec.specs.Words.{held_rows, convert_words}
use Rattle.spec.specs.Laws.Booleans.{and_left, and_right}
use Rattle.text.specs.Stage.{staged-then, Progress}
use Rattle.held_laws.specs.WellMade.{WellMade}
use Rattle.held_laws.specs.Rewriting.{Between, sweep-made}
use Rattle.held_laws.specs.Instances.{fine_row, fine_rows, greek-fine, words-fine, greek-between, word-between, rows_made, refused-not}
use Rattle.name_entry.specs.Sized.{StagedWithin}
use Rattle.held_stages.specs.Outside.{Extra}
use Rattle.held_stages.specs.Carried.{held-sized}
use Rattle.name_entry.specs.declared.bounds.Bounds.TheVariants.{Greek, Word}
use Rattle.name_tables.specs.Kinds.{row_rule, sized_rows}

-- the text is put between the marks again
abbrev pub wrapped : Held → List ℕ → Result Held
wrapped h t = passed (with_text h t)

module _ (rule : Row → Rule) (each : (r : Row) → fine_row r ≡ true → Between (rule r)) (extra : ℕ) where
  pub rows-held :
      (rs : List Row) → fine_rows rs ≡ true → (h : Held) → Extra h extra → WellMade h
      → held_rows rule rs h ≡ (sized_rows extra rule rs h.text then wrapped h)
  unfolding held_rows sized_rows
  rows-held [] fine h e made = refl
  rows-held (r ∷ rs) fine h e made =
      let next = sweep-made (each r (and_left (fine_row r) (fine_rows rs) fine)) made in
      ap (λ q. q then held_rows rule rs) (held-sized extra (sweep (rule r) 0 0) h e next)
      ∙ go (ltb most_symbols (length (sweep (rule r) 0 0 h.text) + extra)) (rows-held rs (and_right (fine_row r) (fine_rows rs) fine) (with_text h (sweep (rule r) 0 0 h.text)) e next)
    where
      go : (t : Bool)
          → held_rows rule rs (with_text h (sweep (rule r) 0 0 h.text)) ≡ (sized_rows extra rule rs (sweep (rule r) 0 0 h.text) then wrapped h)
          → (cond {A = Result (List ℕ)} t (refused 5) (passed (sweep (rule r) 0 0 h.text)) then wrapped h then held_rows rule rs)
          ≡ (cond {A = Result (List ℕ)} t (refused 5) (passed (sweep (rule r) 0 0 h.text)) then sized_rows extra rule rs then wrapped h)
      go true later = refl
      go false later = later

  pub rows-kept :
      (rs : List Row) → fine_rows rs ≡ true → (h : Held) → Extra h extra → WellMade h → {t : List ℕ} → sized_rows extra rule rs h.text ≡ passed t
      → WellMade (with_text h t)
  rows-kept rs fine h e made same = rows_made rule each rs fine made (rows-held rs fine h e made ∙ ap (λ q. q then wrapped h) same)

-- ---- both tables
abbrev pub both_rows : ℕ → List ℕ → Result (List ℕ)
both_rows extra s = sized_rows extra (row_rule Greek) greek_letters s then sized_rows extra (row_rule Word) word_mappings

abbrev pub held_both : Held → Result Held
held_both h = held_rows (row_rule Greek) greek_letters h then held_rows (row_rule Word) word_mappings

module _ (extra : ℕ) (h : Held) (e : Extra h extra) (made : WellMade h) where
  pub words-held : held_both h ≡ (both_rows extra h.text then wrapped h)
  words-held =
      ap (λ q. q then held_rows (row_rule Word) word_mappings) (rows-held (row_rule Greek) greek-between extra greek_letters greek-fine h e made)
      ∙ go (sized_rows extra (row_rule Greek) greek_letters h.text) refl
    where
      go : (q : Result (List ℕ)) → sized_rows extra (row_rule Greek) greek_letters h.text ≡ q
          → (q then wrapped h then held_rows (row_rule Word) word_mappings) ≡ (q then sized_rows extra (row_rule Word) word_mappings then wrapped h)
      go (passed t) same =
          rows-held (row_rule Word) word-between extra word_mappings words-fine (with_text h t) e
          (rows-kept (row_rule Greek) greek-between extra greek_letters greek-fine h e made same)
      go (refused n) same = refl

  pub words-kept : (t : List ℕ) → both_rows extra h.text ≡ passed t → WellMade (with_text h t)
  words-kept t = go (sized_rows extra (row_rule Greek) greek_letters h.text) refl
    where
      go : (q : Result (List ℕ)) → sized_rows extra (row_rule Greek) greek_letters h.text ≡ q
          → (q then sized_rows extra (row_rule Word) word_mappings) ≡ passed t → WellMade (with_text h t)
      go (passed u) same last =
          rows-kept (row_rule Word) word-between extra word_mappings words-fine (with_text h u) e
          (rows-kept (row_rule Greek) greek-between extra greek_letters greek-fine h e made same) last
      go (refused n) same last = refused-not last

pub words-by-held : (s : List ℕ) → convert_words s ≡ (held_both (hold_both s) then put_back)
unfolding convert_words
words-by-held s = refl

-- ---- one table after the other
pub within-then :
    {w w' w'' : List ℕ} {p p' p'' : Progress} {extra : ℕ} {f g : List ℕ → Result (List ℕ)}
    → StagedWithin w w' p p' extra f → StagedWithin w' w'' p' p'' extra g
    → StagedWithin w w'' p p'' extra (λ s. f s then g)
within-then a b = record { staged = staged-then a.staged b.staged; within = b.within }
