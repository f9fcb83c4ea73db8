-- How far a formula has come, and what every stage promises.
--     number      the number of a refusal: document 01's, and document 02's 15 and 16. `number-between`: from 1 to 16
--     shown       what a progress means: the text in its place of the buffer, or the refusal
--     Ready       what a stage asks: the work buffer is large enough, and the text well placed
--     Answered    what a stage ensures: an equation with its definition. `Staged`: and what lies beyond the two regions is as it was
-- Assumes nothing.
use Rattle.std.specs.Prelude.{◌≡◌, refl, cond, List, ◌⊎◌, ℕ, ◌+◌, ◌-◌, ◌≤◌, ◌<◌, ltb, length, drop}
use Rattle.std.proofs.Common.{sym, ap, ap₂, ◌∙◌, subst, inl, inr, ⊎_elim, arith, lt-ltb, le-ltb}
use Rattle.std.proofs.Math.Decide.{dec_lt}
use Rattle.spec.specs.Pipeline.{least_work}
use Rattle.text_search.specs.Half.{half_work}
use Rattle.spec.specs.Result.{Result, passed, refused, ◌then◌, most_symbols, grown, stage}
use Rattle.text_symbols.specs.Parts.{part, length_part}
use Rattle.text.specs.declared.writer.Writer.{Writer}
use Rattle.text.specs.Writer.{Regions, started}
use Rattle.text.specs.Written.{Written, wrote-text, wrote-beyond}
use Rattle.text.specs.declared.Refusal.{Refusal}
use Rattle.text.specs.declared.TextPlace.{TextPlace}
use Rattle.text.specs.declared.Refusal.TheVariants.{
  ForeignByte,
  LongFormula,
  FaultyTable,
  NarrowWork,
  Overgrown,
  LostBlock,
  Unsettled,
  BareDelimiter,
  BarredSolidus,
  ShortOutput,
  TallField,
  NoWord,
}
use Rattle.std.specs.Prelude.{Result as Either, Ok, Err}

abbrev pub number : Refusal → ℕ
number ForeignByte = 1
number LongFormula = 2
number FaultyTable = 3
number NarrowWork = 4
number Overgrown = 5
number LostBlock = 6
number Unsettled = 7
number BareDelimiter = 8
number BarredSolidus = 9
number ShortOutput = 10
number TallField = 15
number NoWord = 16

pub number-between : (why : Refusal) → (0 < number why) × (number why ≤ 16)
number-between ForeignByte = (omega arith, omega arith)
number-between LongFormula = (omega arith, omega arith)
number-between FaultyTable = (omega arith, omega arith)
number-between NarrowWork = (omega arith, omega arith)
number-between Overgrown = (omega arith, omega arith)
number-between LostBlock = (omega arith, omega arith)
number-between Unsettled = (omega arith, omega arith)
number-between BareDelimiter = (omega arith, omega arith)
number-between BarredSolidus = (omega arith, omega arith)
number-between ShortOutput = (omega arith, omega arith)
number-between TallField = (omega arith, omega arith)
number-between NoWord = (omega arith, omega arith)

-- the code's own `Result`, which is another type than that of the definitions
abbrev pub Progress : Type 0
Progress = Either TextPlace Refusal

abbrev pub Text : ℕ → ℕ → Progress
Text at n = Ok (record { at = at; n = n })

abbrev pub shown : Progress → List ℕ → Result (List ℕ)
shown (Ok t) w = passed (part t.at t.n w)
shown (Err k) w = refused (number k)

-- a text lies in the first or the second region
abbrev pub Placed : Progress → Type 0
Placed (Ok t) = ((t.at ≡ 0) ⊎ (t.at ≡ most_symbols)) × (t.n ≤ most_symbols)
Placed (Err k) = Unit {0}

-- a finished text, judged by its length: number 5
abbrev pub judged : Writer → Progress
judged o = cond (ltb most_symbols o.count) (Err Overgrown) (Text o.to o.count)

pub judged-text :
    (w t : List ℕ) (o : Writer) → o.count ≡ length t → (o.to ≡ 0) ⊎ (o.to ≡ most_symbols) → (o.count ≤ most_symbols → part o.to o.count w ≡ t)
    → (shown (judged o) w ≡ grown t t) × Placed (judged o)
judged-text w t o counted region held = go (dec_lt most_symbols o.count)
  where
    go : Dec (most_symbols < o.count) → (shown (judged o) w ≡ grown t t) × Placed (judged o)
    go (yes h) = rw (lt-ltb most_symbols o.count h, lt-ltb most_symbols (length t) (omega arith)) (refl, tt)
    go (no h) =
        let l : o.count ≤ most_symbols = omega arith in
        rw (le-ltb most_symbols o.count l, le-ltb most_symbols (length t) (omega arith)) (ap passed (held l), (region, l))

pub record Ready (w : List ℕ) (p : Progress) : Type 0 where
  pub long : least_work ≤ length w
  pub placed : Placed p

pub record Answered (w w' : List ℕ) (p p' : Progress) (f : List ℕ → Result (List ℕ)) : Type 0 where
  pub answer : shown p' w' ≡ (shown p w then f)
  pub long : length w' ≡ length w
  pub placed : Placed p'

pub record Staged (w w' : List ℕ) (p p' : Progress) (f : List ℕ → Result (List ℕ)) : Type 0 where
  pub answered : Answered w w' p p' f
  pub beyond : drop half_work w' ≡ drop half_work w

-- ---- one stage after another
pub answered-ready : {w w' : List ℕ} {p p' : Progress} {f : List ℕ → Result (List ℕ)} → Ready w p → Answered w w' p p' f → Ready w' p'
answered-ready ready a = let l = a.long in let r = ready.long in record { long = omega arith; placed = a.placed }

pub answered-then :
    {w w' w'' : List ℕ} {p p' p'' : Progress} {f g : List ℕ → Result (List ℕ)}
    → Answered w w' p p' f
    → Answered w' w'' p' p'' g
    → Answered w w'' p p'' (λ s. f s then g)
answered-then {w} {p = p} {f = f} {g} a b =
    record {
      answer = b.answer ∙ ap (λ r. r then g) a.answer ∙ joined (shown p w);
      long = b.long ∙ a.long;
      placed = b.placed;
    }
  where
    joined : (r : Result (List ℕ)) → (r then f then g) ≡ (r then (λ s. f s then g))
    joined (passed s) = refl
    joined (refused k) = refl

pub staged-then :
    {w w' w'' : List ℕ} {p p' p'' : Progress} {f g : List ℕ → Result (List ℕ)}
    → Staged w w' p p' f
    → Staged w' w'' p' p'' g
    → Staged w w'' p p'' (λ s. f s then g)
staged-then a b = record { answered = answered-then a.answered b.answered; beyond = b.beyond ∙ a.beyond }

-- the same stage by another definition
pub staged-by :
    {w w' : List ℕ} {p p' : Progress} {f : List ℕ → List ℕ} (g : List ℕ → List ℕ) → ((s : List ℕ) → f s ≡ g s)
    → Staged w w' p p' (stage f)
    → Staged w w' p p' (stage g)
staged-by {w} {p = p} {f = f} g same a =
    record {
      answered = record { answer = a.answered.answer ∙ go (shown p w); long = a.answered.long; placed = a.answered.placed };
      beyond = a.beyond;
    }
  where
    go : (r : Result (List ℕ)) → (r then stage f) ≡ (r then stage g)
    go (passed s) = ap (λ t. grown t t) (same s)
    go (refused k) = refl

-- ---- a stage that leaves buffer and progress as they are
-- because the text has been refused before
pub staged-refused : {w : List ℕ} {p : Progress} (f : List ℕ → Result (List ℕ)) (k : Refusal) → p ≡ Err k → Staged w w p p f
staged-refused {w} {p} f k e =
    record {
      answered = record { answer = ap (λ q. shown q w) e ∙ ap (λ q. shown q w then f) (sym e); long = refl; placed = subst Placed (sym e) tt };
      beyond = refl;
    }

-- because its definition does
pub grown-short : (s : List ℕ) → length s ≤ most_symbols → grown s s ≡ passed s
grown-short s h = rw (le-ltb most_symbols (length s) h)

module _ {w : List ℕ} {p : Progress} {from n : ℕ} (ready : Ready w p) (e : p ≡ Text from n) where
  pub placed-text : ((from ≡ 0) ⊎ (from ≡ most_symbols)) × (n ≤ most_symbols)
  placed-text = subst Placed e ready.placed

  pub placed-fits : from + n ≤ half_work
  placed-fits = let p = placed-text in let n = p.1 in ⊎_elim (λ z. omega arith) (λ z. omega arith) p.0

  pub placed-low : from ≤ most_symbols
  placed-low = ⊎_elim (λ z. omega arith) (λ z. omega arith) placed-text.0

  pub staged-same : (f : List ℕ → List ℕ) → f (part from n w) ≡ part from n w → Staged w w p (Text from n) (stage f)
  staged-same f same =
      let long = ready.long in let fits = placed-fits in let short = placed-text.1 in
      let l = length_part from n w (omega arith) in
      record {
        answered = record {
          answer = sym (ap (λ q. shown q w then stage f) e ∙ ap (λ t. grown t t) same ∙ grown-short (part from n w) (omega arith));
          long = refl;
          placed = placed-text;
        };
        beyond = refl;
      }

  -- the same stage by another definition, which agrees at this text
  pub staged-at :
      {w' : List ℕ} {p' : Progress} {f : List ℕ → Result (List ℕ)} (g : List ℕ → Result (List ℕ)) → f (part from n w) ≡ g (part from n w)
      → Staged w w' p p' f
      → Staged w w' p p' g
  staged-at {f = f} g same a =
      record {
        answered = record {
          answer = a.answered.answer ∙ ap (λ q. shown q w then f) e ∙ same ∙ sym (ap (λ q. shown q w then g) e);
          long = a.answered.long;
          placed = a.answered.placed;
        };
        beyond = a.beyond;
      }

  -- ---- a stage that writes its text to the other region
  pub placed-regions : Regions w from n (started (most_symbols - from))
  placed-regions =
      let long = ready.long in let short = placed-text.1 in
      ⊎_elim (λ z. record { source = omega arith; region = omega arith; apart = inl (omega arith); short = omega arith; small = omega arith })
      (λ z. record { source = omega arith; region = omega arith; apart = inr (omega arith); short = omega arith; small = omega arith })
      placed-text.0

  pub staged-written :
      {w' : List ℕ} {o : Writer} {p' : Progress} {t : List ℕ} (f : List ℕ → List ℕ)
      → Written w w' (started (most_symbols - from)) o t → f (part from n w) ≡ t → p' ≡ judged o
      → Staged w w' p p' (stage f)
  staged-written {w'} {o} {t = t} f written same j =
      let fits = placed-regions.region in let c = written.counted in let at = written.same-place in
      let other : (o.to ≡ 0) ⊎ (o.to ≡ most_symbols) = ⊎_elim (λ z. inr (omega arith)) (λ z. inl (omega arith)) placed-text.0 in
      let right = judged-text w' t o c other (λ l. ap₂ (λ k m. part k m w') at c ∙ wrote-text written.wrote fits (omega arith)) in
      record {
        answered = record {
          answer = ap (λ q. shown q w') j ∙ right.0 ∙ sym (ap (λ q. shown q w then stage f) e ∙ ap (λ s. grown s s) same);
          long = written.wrote.long;
          placed = subst Placed (sym j) right.1;
        };
        beyond = wrote-beyond {k = half_work} written.wrote (⊎_elim (λ z. omega arith) (λ z. omega arith) placed-text.0);
      }
