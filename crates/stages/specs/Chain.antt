-- From stage to stage: a text that a stage gives is ready for the next one, and holds no mark where blocks are held out. Assumes nothing.
--     staged_ready           what a stage asks, of the text that the one before it gave
--     bare-after, fit-after  what definitions and words ask besides, from stage to stage
use Rattle.std.specs.Prelude.{◌≡◌, refl, Bool, true, false, List, ℕ}
use Rattle.std.proofs.Common.{sym, ap, ◌∙◌, subst}
use Rattle.std.proofs.Math.Option.{some}
use Rattle.spec.specs.Result.{Result, passed, refused, ◌then◌, stage}
use Rattle.spec.specs.Calls.{convert_op, convert_cases, convert_attach, convert_bb, convert_bold, convert_binom, convert_upright, convert_floor_ceil_abs}
use Rattle.spec.specs.Quotes.{convert_text_quotes}
use Rattle.spec.specs.Rows.{function_mappings, operator_replacements}
use Rattle.spec.specs.Words.{convert_sqrt, replace_rows}
use Rattle.spec.specs.Table.{definitions}
use Rattle.spec.specs.Pipeline.{mark_solidus, on_display, definitions_or}
use Rattle.spec.specs.Laws.Result.{unpassed}
use Rattle.text.specs.Stage.{shown, Ready, Answered, Staged, answered-ready, answered-then, staged-then}
use Rattle.text.specs.Stage.{Progress}
use Rattle.text.specs.Stage.{Text}
use Rattle.std.specs.Prelude.{Ok, Err}
use Rattle.text_symbols.specs.Parts.{part}
use Rattle.held_stages.specs.Outside.{UnmarkedProgress}
use Rattle.held_laws.specs.Marks.{has_mark}
use Rattle.stage_laws.specs.Each.{Each}
use Rattle.stage_laws.specs.Calls.{unmarked}
use Rattle.stage_laws.specs.Stages.{Passes, pass, stop, before_definitions, before_words}
use Rattle.stage_laws.specs.Outside.{each_bare, bare-each}
use Rattle.stages.specs.Fit.{Bare, Admissible}

pub staged_ready : {w w' : List ℕ} {p p' : Progress} {f : List ℕ → Result (List ℕ)} → Ready w p → Staged w w' p p' f → Ready w' p'
staged_ready r s = answered-ready r s.answered

-- ---- texts without a mark
passes-bare : {r : Result (List ℕ)} → Passes unmarked r → Bare r
passes-bare (pass {s} a) = record { unmarked = λ t e. let same : s ≡ t = cc in subst (λ u. has_mark u ≡ false) same (each_bare a) }
passes-bare stop = record { unmarked = λ t e. absurd (unpassed e) }

module _ {w w' : List ℕ} {p p' : Progress} {f : List ℕ → Result (List ℕ)} (keeps : (s : List ℕ) → Each unmarked s → Passes unmarked (f s)) (a : Answered w w' p p' f) where
  pub bare-after : Bare (shown p w) → Bare (shown p' w')
  bare-after b = subst Bare (sym a.answer) (passes-bare (go (shown p w) b))
    where
      go : (r : Result (List ℕ)) → Bare r → Passes unmarked (r then f)
      go (passed s) b = keeps s (bare-each s (b.unmarked s refl))
      go (refused n) b = stop

  pub fit-after : {table : List ℕ} → Admissible table (shown p w) → Admissible table (shown p' w')
  fit-after {table} b = record { bare = bare-after b.bare; sound = λ s e. go (shown p w) b.sound (sym a.answer ∙ e) }
    where
      go : {s : List ℕ} (r : Result (List ℕ)) → ((t : List ℕ) → r ≡ passed t → definitions table ≡ some (definitions_or table)) → (r then f) ≡ passed s → definitions table ≡ some (definitions_or table)
      go (passed t) sound e = sound t refl
      go (refused n) sound e = absurd (unpassed e)

-- ---- what definitions and words ask
pub bare-unmarked : (w : List ℕ) (p : Progress) → Bare (shown p w) → UnmarkedProgress w p
bare-unmarked w (Ok t) b = b.unmarked (part t.at t.n w) refl
bare-unmarked w (Err k) b = tt

pub unmarked-after : {w w' : List ℕ} {p p' : Progress} {f : List ℕ → Result (List ℕ)} → ((s : List ℕ) → Each unmarked s → Passes unmarked (f s)) → Answered w w' p p' f → Bare (shown p w) → UnmarkedProgress w' p'
unmarked-after {w' = w'} {p' = p'} keeps a b = bare-unmarked w' p' (bare-after keeps a b)

pub fit-sound : (w : List ℕ) {table : List ℕ} {p : Progress} {at n : ℕ} → p ≡ Text at n → Admissible table (shown p w) → definitions table ≡ some (definitions_or table)
fit-sound w {at = at} {n} e fit = fit.sound (part at n w) (ap (λ q. shown q w) e)

-- ---- the stages of the display
pub on-display : {w w' : List ℕ} {p p' : Progress} {f : List ℕ → Result (List ℕ)} {display : Bool} → display ≡ true → Staged w w' p p' f → Staged w w' p p' (on_display display f)
on-display {w} {w'} {p} {p'} {f} e s = subst (λ d. Staged w w' p p' (on_display d f)) (sym e) s

pub off-display : {w : List ℕ} {p : Progress} (f : List ℕ → Result (List ℕ)) {display : Bool} → display ≡ false → Ready w p → Staged w w p p (on_display display f)
off-display {w} {p} f e r = subst (λ d. Staged w w p p (on_display d f)) (sym e) (record { answered = record { answer = same (shown p w); long = refl; placed = r.placed }; beyond = refl })
  where
    same : (r : Result (List ℕ)) → r ≡ (r then (λ s. passed s))
    same (passed s) = refl
    same (refused n) = refl

-- ---- the stages up to the quotes
pub first-stages :
    {w₀ w₁ w₂ w₃ w₄ w₅ w₆ w₇ w₈ w₉ w : List ℕ} {p₀ p₁ p₂ p₃ p₄ p₅ p₆ p₇ p₈ p₉ p : Progress}
    → Staged w₀ w₁ p₀ p₁ (stage mark_solidus)
    → Staged w₁ w₂ p₁ p₂ (stage convert_op)
    → Staged w₂ w₃ p₂ p₃ (stage convert_cases)
    → Answered w₃ w₄ p₃ p₄ (stage convert_attach)
    → Staged w₄ w₅ p₄ p₅ (stage convert_bb)
    → Staged w₅ w₆ p₅ p₆ (stage convert_bold)
    → Staged w₆ w₇ p₆ p₇ (stage convert_binom)
    → Staged w₇ w₈ p₇ p₈ (stage convert_upright)
    → Staged w₈ w₉ p₈ p₉ convert_floor_ceil_abs
    → Staged w₉ w p₉ p (stage convert_text_quotes)
    → Answered w₀ w p₀ p before_definitions
first-stages a b c d e f g h i j =
    answered-then
    (answered-then
    (answered-then
    (answered-then
    (answered-then (answered-then (answered-then (staged-then (staged-then a b) c).answered d) e.answered) f.answered)
    g.answered)
    h.answered)
    i.answered)
    j.answered

-- `sqrt`, functions and operators
pub stages-before-words :
    {w₀ w₁ w₂ w : List ℕ} {p₀ p₁ p₂ p : Progress}
    → Staged w₀ w₁ p₀ p₁ (stage convert_sqrt)
    → Staged w₁ w₂ p₁ p₂ (replace_rows function_mappings)
    → Staged w₂ w p₂ p (replace_rows operator_replacements)
    → Answered w₀ w p₀ p before_words
stages-before-words a b c = (staged-then (staged-then a b) c).answered
