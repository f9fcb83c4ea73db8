-- Stages that apply entries: where none of them matches, every byte of the buffer is as it was, and the text stands where it stood.
--     Unmatched      none of the entries matches in the text of a formula on its way
--     Untouched      the promise
--     EntriesLeft    entries one after another: of `all`, `left` are to be applied
-- Assumes nothing.
use Rattle.std.specs.Prelude.{◌≡◌, refl, Bool, true, false, ◌||◌, List, [], ◌∷◌, ◌++◌, ℕ, ◌+◌, ◌-◌, ◌≤◌, ◌<◌, length}
use Rattle.std.proofs.Common.{sym, ap, ◌∙◌, subst, subst₂, append-nil, arith}
use Rattle.std.proofs.lemmas.Bool.{false≢true}
use Rattle.text_search.specs.Half.{half_work}
use Rattle.spec.specs.Symbols.{starts, contains}
use Rattle.spec.specs.Matches.{Match, any_match, somewhere}
use Rattle.spec.specs.Laws.Booleans.{or_left, or-neither}
use Rattle.spec.specs.Laws.Matches.{AtPattern, somewhere_from, somewhere-contains, somewhere-absent, somewhere-found}
use Rattle.text_symbols.specs.Parts.{part, length_part, whole_part}
use Rattle.std.specs.Prelude.{Ok, Err}
use Rattle.text.specs.declared.Due.{Due}
use Rattle.text.specs.declared.writer.Writer.{Writer}
use Rattle.std.specs.Prelude.{Option as Maybe, Some, None}
use Rattle.text.specs.Stage.{Progress, Text}
use Rattle.text.specs.Due.{Absent, Told, Awaited, pattern-occurs}

abbrev pub Unmatched : List ℕ → Progress → List Match → Type 0
Unmatched w (Ok t) ms = any_match ms (part t.at t.n w) ≡ false
Unmatched w (Err k) ms = Unit {0}

pub record Untouched (w w' : List ℕ) (p p' : Progress) (ms : List Match) : Type 0 where
  pub stays : Unmatched w p ms → (w' ≡ w) × (p' ≡ p)

-- ---- one stage
pub untouched-same : {w : List ℕ} {p : Progress} {ms : List Match} → Untouched w w p p ms
untouched-same = record { stays = λ none. (refl, refl) }

pub untouched-matched : {w w' : List ℕ} {p p' : Progress} {from n : ℕ} {ms : List Match} → p ≡ Text from n → any_match ms (part from n w) ≡ true → Untouched w w' p p' ms
untouched-matched {w} {ms = ms} e matched = record { stays = λ none. absurd (false≢true (sym (subst (λ q. Unmatched w q ms) e none) ∙ matched)) }

-- ---- a test that holds only where the pattern stands that the stage waits for
module _ {pattern : List ℕ} {test : ℕ → List ℕ → Bool} (at : AtPattern pattern test) where
  pub absent-unmatched : (w : List ℕ) (p : Progress) → Absent w pattern p → Unmatched w p (somewhere test 0 ∷ [])
  absent-unmatched w (Ok t) absent = ap (λ b. b || false) (somewhere-absent at (part t.at t.n w) 0 absent)
  absent-unmatched w (Err k) absent = tt

  module _ {w : List ℕ} {p : Progress} {r : Maybe Due} (awaited : Awaited w p pattern r) where
    pub nothing-unmatched : r ≡ None → Unmatched w p (somewhere test 0 ∷ [])
    nothing-unmatched e = absent-unmatched w p (subst (Told w p pattern) e awaited.told)

    -- a search from the pattern's first place on, and what it has answered
    module _ {from n : ℕ} {o : Writer} {i : ℕ} (e : r ≡ Some (record { source = record { at = from; n = n }; out = o; first = i })) where
      pub search-fits : (i < length (part from (from + n - from) w)) × (length (part from (from + n - from) w) ≤ half_work)
      search-fits =
          let occurs = pattern-occurs awaited e in
          let l = ap length (whole_part from n w) ∙ length_part from n w occurs.regions.source in
          let h = occurs.within in let m = occurs.short in
          (omega arith, omega arith)

      module _ {b : Bool} (searched : b ≡ somewhere_from test (part from (from + n - from) w) i) where
        pub search-answered : somewhere test 0 (part from n w) ≡ b
        search-answered =
            let occurs = pattern-occurs awaited e in
            let l = length_part from n w occurs.regions.source in let h = occurs.within in
            somewhere-found at (part from n w) 0 i (omega arith) occurs.found ∙ ap (λ s. somewhere_from test s i) (sym (whole_part from n w)) ∙ sym searched

        pub searched-unmatched : b ≡ false → Unmatched w p (somewhere test 0 ∷ [])
        searched-unmatched none = subst (λ q. Unmatched w q (somewhere test 0 ∷ [])) (sym (pattern-occurs awaited e).text) (ap (λ b. b || false) (search-answered ∙ none))

        pub searched-matched : {w' : List ℕ} {p' : Progress} → b ≡ true → Untouched w w' p p' (somewhere test 0 ∷ [])
        searched-matched some = untouched-matched (pattern-occurs awaited e).text (or_left false (search-answered ∙ some))

-- ---- matches written otherwise
pub untouched-alike :
    {w w' : List ℕ} {p p' : Progress} {ms ms' : List Match} → ((s : List ℕ) → any_match ms' s ≡ false → any_match ms s ≡ false)
    → Untouched w w' p p' ms
    → Untouched w w' p p' ms'
untouched-alike {w} {p = p} {ms = ms} {ms'} same a = record { stays = λ none. a.stays (go p none) }
  where
    go : (q : Progress) → Unmatched w q ms' → Unmatched w q ms
    go (Ok t) none = same (part t.at t.n w) none
    go (Err k) none = tt

pub untouched-contains : {w w' : List ℕ} {p p' : Progress} (pattern : List ℕ) → Untouched w w' p p' (somewhere (λ before t. starts pattern t) 0 ∷ []) → Untouched w w' p p' (contains pattern ∷ [])
untouched-contains pattern = untouched-alike (λ s none. ap (λ b. b || false) (somewhere-contains pattern 0 s) ∙ none)

-- ---- several
pub record EntriesLeft (w₀ w : List ℕ) (p₀ p : Progress) (all left : List Match) : Type 0 where
  pub so_far : Unmatched w₀ p₀ all → (w ≡ w₀) × (p ≡ p₀) × Unmatched w p left

pub entries_none : {w : List ℕ} {p : Progress} {all : List Match} → EntriesLeft w w p p all all
entries_none = record { so_far = λ none. (refl, refl, none) }

pub any-parts : (ms ms' : List Match) (s : List ℕ) → any_match (ms ++ ms') s ≡ false → (any_match ms s ≡ false) × (any_match ms' s ≡ false)
any-parts [] ms' s e = (refl, e)
any-parts (m ∷ ms) ms' s e =
    let parts = or-neither (m s) (any_match (ms ++ ms') s) e in let later = any-parts ms ms' s parts.1 in
    (ap (λ b. b || any_match ms s) parts.0 ∙ later.0, later.1)

module _ {w₀ w : List ℕ} {p₀ p : Progress} {all : List Match} where
  -- `here` have been applied
  pub entries-more :
      {w' : List ℕ} {p' : Progress} {left : List Match} (here next : List Match) → EntriesLeft w₀ w p₀ p all left → left ≡ here ++ next
      → Untouched w w' p p' here
      → EntriesLeft w₀ w' p₀ p' all next
  entries-more {w'} {p'} {left} here next entries e a = record { so_far = λ none. go (entries.so_far none) }
    where
      both : (q : Progress) → Unmatched w q left → Unmatched w q here × Unmatched w q next
      both (Ok t) none = any-parts here next (part t.at t.n w) (ap (λ ms. any_match ms (part t.at t.n w)) (sym e) ∙ none)
      both (Err k) none = (tt, tt)

      go : (w ≡ w₀) × (p ≡ p₀) × Unmatched w p left → (w' ≡ w₀) × (p' ≡ p₀) × Unmatched w' p' next
      go before =
          let parts = both p before.2 in let same = a.stays parts.0 in
          (same.0 ∙ before.0, same.1 ∙ before.1, subst₂ (λ v q. Unmatched v q next) (sym same.0) (sym same.1) parts.1)

  pub entries-all : {left : List Match} → EntriesLeft w₀ w p₀ p all left → Untouched w₀ w p₀ p all
  entries-all entries = record { stays = λ none. let so_far = entries.so_far none in (so_far.0, so_far.1) }

-- one group after another
pub untouched-then :
    {w w' w'' : List ℕ} {p p' p'' : Progress} (ms ms' : List Match)
    → Untouched w w' p p' ms
    → Untouched w' w'' p' p'' ms'
    → Untouched w w'' p p'' (ms ++ ms')
untouched-then ms ms' a b = entries-all (entries-more ms' [] (entries-more ms ms' entries_none refl a) (sym (append-nil ms')) b)
