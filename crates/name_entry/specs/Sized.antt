-- Stages whose text counts as `extra` symbols longer than it is, since blocks are held out of it.
--     sized             the stage: number 5 counts the held blocks
--     FitsWithBlocks    with them, the text is not too long
--     StagedWithin      what such a stage promises, or several of them
--     Remaining         several, one after another: what has been done, and what is left to do
-- Assumes nothing.
use Rattle.std.specs.Prelude.{◌≡◌, refl, Bool, false, cond, List, [], ◌∷◌, ℕ, ◌+◌, ◌≤◌, ◌<◌, ltb, length, drop, Option as Maybe, Some, Ok, Err}
use Rattle.std.proofs.Common.{sym, ap, ◌∙◌, subst, arith, length-take, lt-ltb, le-ltb}
use Rattle.std.proofs.Math.Decide.{dec_lt}
use Rattle.text_search.specs.Half.{half_work}
use Rattle.spec.specs.Sweep.{Rule, sweep}
use Rattle.spec.specs.Matches.{somewhere}
use Rattle.spec.specs.Laws.Booleans.{or-neither}
use Rattle.spec.specs.Laws.Matches.{Keeps, sweep-unmatched}
use Rattle.spec.specs.Result.{Result, passed, refused, ◌then◌, most_symbols, stage}
use Rattle.text_symbols.specs.Parts.{part}
use Rattle.text.specs.declared.writer.Writer.{Writer}
use Rattle.text.specs.Writer.{Appended}
use Rattle.text.specs.Written.{appended-text}
use Rattle.text.specs.Stage.{Placed, Ready, Staged, shown}
use Rattle.text.specs.Due.{Awaited, pattern-occurs, none-written, staged-answer, other-placed}
use Rattle.text.specs.Untouched.{Unmatched}
use Rattle.text.specs.declared.Due.{Due}
use Rattle.std.specs.Prelude.{Option as Maybe, Some}
use Rattle.text.specs.declared.Refusal.TheVariants.{Overgrown}
use Rattle.text.specs.Stage.{Progress}
use Rattle.text.specs.Stage.{Text}
use Rattle.std.specs.Prelude.{Ok, Err}

abbrev pub sized : ℕ → (List ℕ → List ℕ) → List ℕ → Result (List ℕ)
sized extra f s = let t = f s in cond (ltb most_symbols (length t + extra)) (refused 5) (passed t)

abbrev pub FitsWithBlocks : ℕ → Progress → Type 0
FitsWithBlocks extra (Ok t) = t.n + extra ≤ most_symbols
FitsWithBlocks extra (Err k) = Unit {0}

abbrev pub judged_within : ℕ → Writer → Progress
judged_within extra o = cond (ltb most_symbols (o.count + extra)) (Err Overgrown) (Text o.to o.count)

pub record StagedWithin (w w' : List ℕ) (p p' : Progress) (extra : ℕ) (f : List ℕ → Result (List ℕ)) : Type 0 where
  pub staged : Staged w w' p p' f
  pub within : FitsWithBlocks extra p'

-- a stage by another definition
pub staged-alike :
    {w w' : List ℕ} {p p' : Progress} {f : List ℕ → Result (List ℕ)} (g : List ℕ → Result (List ℕ)) → ((s : List ℕ) → f s ≡ g s)
    → Staged w w' p p' f
    → Staged w w' p p' g
staged-alike {w} {p = p} {f = f} g same a =
    record {
      answered = record { answer = a.answered.answer ∙ go (shown p w); long = a.answered.long; placed = a.answered.placed };
      beyond = a.beyond;
    }
  where
    go : (r : Result (List ℕ)) → (r then f) ≡ (r then g)
    go (passed s) = same s
    go (refused k) = refl

-- with nothing held, it is a stage
pub sized-none : (f : List ℕ → List ℕ) (s : List ℕ) → sized 0 f s ≡ stage f s
sized-none f s = let e : length (f s) + 0 ≡ length (f s) = omega arith in ap (λ n. cond (ltb most_symbols n) (refused 5) (passed (f s))) e

pub within_none : {w : List ℕ} (p : Progress) → Ready w p → FitsWithBlocks 0 p
within_none (Ok t) ready = let h = ready.placed.1 in omega arith
within_none (Err k) ready = tt

-- ---- there is nothing to do: the text has been refused before, or it holds no match
pub unmatched-within :
    {w : List ℕ} (p : Progress) {test : ℕ → List ℕ → Bool} {rule : Rule} (extra : ℕ) → Ready w p → FitsWithBlocks extra p → Keeps test rule
    → Unmatched w p (somewhere test 0 ∷ [])
    → StagedWithin w w p p extra (sized extra (sweep rule 0 0))
unmatched-within {w} (Ok t) {test} extra ready within keeps none =
    let l = length-take t.n (drop t.at w) in
    let short : length (part t.at t.n w) + extra ≤ most_symbols = omega arith in
    let same = sweep-unmatched keeps (part t.at t.n w) 0 (or-neither (somewhere test 0 (part t.at t.n w)) false none).0 in
    record {
      staged = record {
        answered = record { answer = sym (rw (same, le-ltb most_symbols (length (part t.at t.n w) + extra) short)); long = refl; placed = ready.placed };
        beyond = refl;
      };
      within = within;
    }
unmatched-within (Err k) extra ready within keeps none =
    record { staged = record { answered = record { answer = refl; long = refl; placed = tt }; beyond = refl }; within = tt }

module _ {w : List ℕ} {p : Progress} {pattern : List ℕ} {r : Maybe Due} (extra : ℕ) (awaited : Awaited w p pattern r) (within : FitsWithBlocks extra p) where
  -- ---- the text has been rewritten to the other region
  module _ {from n : ℕ} {o : Writer} {i : ℕ} (e : r ≡ Some (record { source = record { at = from; n = n }; out = o; first = i })) where
    pub within_text : n + extra ≤ most_symbols
    within_text = subst (FitsWithBlocks extra) (pattern-occurs awaited e).text within

    pub written-within :
        {w' : List ℕ} {o' : Writer} {p' : Progress} (f : List ℕ → List ℕ) → Appended w w' o o' (f (part from n w)) → p' ≡ judged_within extra o'
        → StagedWithin w w' p p' extra (sized extra f)
    written-within {w'} {o'} {p'} f a j =
        let right = subst (λ q. (shown q w' ≡ sized extra f (part from n w)) × Placed q × FitsWithBlocks extra q) (sym j) (judged-right (dec_lt most_symbols (o'.count + extra))) in
        record { staged = staged-answer awaited e (sized extra f) a right.0 right.1; within = right.2 }
      where
        judged-right : Dec (most_symbols < o'.count + extra) → (let q = judged_within extra o' in (shown q w' ≡ sized extra f (part from n w)) × Placed q × FitsWithBlocks extra q)
        judged-right (yes h) =
            let c = a.counted in let none = none-written awaited e in
            rw (lt-ltb most_symbols (o'.count + extra) h, lt-ltb most_symbols (length (f (part from n w)) + extra) (omega arith)) (refl, tt, tt)
        judged-right (no h) =
            let c = a.counted in let none = none-written awaited e in let cap = ap (λ k. k.cap) (pattern-occurs awaited e).other in
            let l : o'.count + extra ≤ most_symbols = omega arith in
            rw (le-ltb most_symbols (o'.count + extra) l, le-ltb most_symbols (length (f (part from n w)) + extra) (omega arith))
            (ap passed (appended-text a none (pattern-occurs awaited e).regions.region (omega arith)), (other-placed awaited e a, omega arith), l)

-- the same stage by another definition
pub within-alike :
    {w w' : List ℕ} {p p' : Progress} {extra : ℕ} {f : List ℕ → List ℕ} (g : List ℕ → List ℕ) → ((s : List ℕ) → f s ≡ g s)
    → StagedWithin w w' p p' extra (sized extra f)
    → StagedWithin w w' p p' extra (sized extra g)
within-alike {extra = extra} g same a =
    record {
      staged = staged-alike (sized extra g) (λ s. ap (λ t. cond (ltb most_symbols (length t + extra)) (refused 5) (passed t)) (same s)) a.staged;
      within = a.within;
    }

-- ---- several such stages
-- one after another: f is all that is to be done, and g what is left of it
pub record Remaining (w₀ w : List ℕ) (p₀ p : Progress) (extra : ℕ) (f g : List ℕ → Result (List ℕ)) : Type 0 where
  pub rest : (shown p w then g) ≡ (shown p₀ w₀ then f)
  pub long : length w ≡ length w₀
  pub placed : Placed p
  pub beyond : drop half_work w ≡ drop half_work w₀
  pub within : FitsWithBlocks extra p

pub remaining-none : {w : List ℕ} {p : Progress} {extra : ℕ} (f : List ℕ → Result (List ℕ)) → Ready w p → FitsWithBlocks extra p → Remaining w w p p extra f f
remaining-none f ready within = record { rest = refl; long = refl; placed = ready.placed; beyond = refl; within = within }

then-then : (r : Result (List ℕ)) (f g : List ℕ → Result (List ℕ)) → (r then f then g) ≡ (r then (λ s. f s then g))
then-then (passed s) f g = refl
then-then (refused k) f g = refl

module _ {w₀ w : List ℕ} {p₀ p : Progress} {extra : ℕ} {f g : List ℕ → Result (List ℕ)} (r : Remaining w₀ w p₀ p extra f g) where
  pub remaining-ready : Ready w₀ p₀ → Ready w p
  remaining-ready ready = let l = ready.long in let m = r.long in record { long = omega arith; placed = r.placed }

  -- the first of them has been done, and `next` are the others
  pub remaining-step :
      {w' : List ℕ} {p' : Progress} {h : List ℕ → Result (List ℕ)} (next : List ℕ → Result (List ℕ))
      → StagedWithin w w' p p' extra h → ((s : List ℕ) → g s ≡ (h s then next))
      → Remaining w₀ w' p₀ p' extra f next
  remaining-step {h = h} next a step =
      record {
        rest = ap (λ r. r then next) a.staged.answered.answer ∙ then-then (shown p w) h next ∙ sym (by (shown p w)) ∙ r.rest;
        long = a.staged.answered.long ∙ r.long;
        placed = a.staged.answered.placed;
        beyond = a.staged.beyond ∙ r.beyond;
        within = a.within;
      }
    where
      by : (r : Result (List ℕ)) → (r then g) ≡ (r then (λ s. h s then next))
      by (passed s) = step s
      by (refused k) = refl

  pub remaining-all : ((s : List ℕ) → g s ≡ passed s) → StagedWithin w₀ w p₀ p extra f
  remaining-all done =
      record {
        staged = record {
          answered = record { answer = sym (by (shown p w)) ∙ r.rest; long = r.long; placed = r.placed };
          beyond = r.beyond;
        };
        within = r.within;
      }
    where
      by : (r : Result (List ℕ)) → (r then g) ≡ r
      by (passed s) = done s
      by (refused k) = refl
