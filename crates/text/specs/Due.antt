-- What a stage that waits for a pattern has to do, and what it promises then.
--     Absent      there is nothing to do: the text has been refused before, or the pattern is nowhere in it
--     Occurs      the pattern stands in the text, and there is room to rewrite it to the other region
--     Awaited     the answer of `due_for`
-- Assumes nothing.
use Rattle.std.specs.Prelude.{◌≡◌, refl, List, ◌⊎◌, ℕ, ◌+◌, ◌-◌, ◌≤◌, ◌<◌, length, drop}
use Rattle.std.proofs.Common.{sym, ap, ◌∙◌, subst, inl, inr, ⊎_elim, arith, length-take}
use Rattle.std.proofs.Math.Option.{none, some}
use Rattle.text_search.specs.Half.{half_work}
use Rattle.spec.specs.Result.{Result, passed, ◌then◌, most_symbols, grown, stage}
use Rattle.spec.specs.Symbols.{find}
use Rattle.text_symbols.specs.Parts.{part, length_part, whole_part}
use Rattle.text_search.specs.Search.{Found, Finds, finds-at, finds-within, finds-nothing}
use Rattle.text.specs.declared.writer.Writer.{Writer}
use Rattle.text.specs.Writer.{Appended, Regions, started}
use Rattle.text.specs.Written.{Written, appended-written, wrote-beyond}
use Rattle.text.specs.Stage.{Progress, Text, Placed, Ready, Staged, shown, judged, grown-short, placed-text, placed-regions, staged-same, staged-written}
use Rattle.text.specs.declared.Refusal.{Refusal}
use Rattle.std.specs.Prelude.{Ok, Err}
use Rattle.text.specs.declared.Due.{Due}
use Rattle.std.specs.Prelude.{Option as Maybe, Some, None}

abbrev pub Absent : List ℕ → List ℕ → Progress → Type 0
Absent w pattern (Ok t) = find pattern (part t.at t.n w) ≡ none
Absent w pattern (Err k) = Unit {0}

-- the text of n symbols at `from` is to be rewritten by the writer o, and the pattern stands at place i for the first time
pub record Occurs (w : List ℕ) (p : Progress) (pattern : List ℕ) (from n : ℕ) (o : Writer) (i : ℕ) : Type 0 where
  pub text : p ≡ Text from n
  pub other : o ≡ started (most_symbols - from)
  pub regions : Regions w from n o
  pub short : n ≤ most_symbols
  pub within : i < n
  pub found : find pattern (part from n w) ≡ some (drop i (part from n w))

abbrev pub Told : List ℕ → Progress → List ℕ → Maybe Due → Type 0
Told w p pattern (Some d) = Occurs w p pattern d.source.at d.source.n d.out d.first
Told w p pattern None = Absent w pattern p

pub record Awaited (w : List ℕ) (p : Progress) (pattern : List ℕ) (r : Maybe Due) : Type 0 where
  pub ready : Ready w p
  pub told : Told w p pattern r

-- ---- the answer, by what the search has found
pub due-refused : {w pattern : List ℕ} {p : Progress} → Ready w p → (k : Refusal) → p ≡ Err k → Awaited w p pattern None
due-refused {w} {pattern} ready k e = record { ready = ready; told = subst (Absent w pattern) (sym e) tt }

module _
    (pattern : List ℕ) {w : List ℕ} {p : Progress} {from n : ℕ} {r : Found} (ready : Ready w p) (e : p ≡ Text from n)
    (finds : Finds (part from (from + n - from) w) r (find pattern (part from (from + n - from) w)))
  where
    text-finds : Finds (part from n w) r (find pattern (part from n w))
    text-finds = subst (λ s. Finds s r (find pattern s)) (whole_part from n w) finds

    pub due-absent : r ≡ None → Awaited w p pattern None
    due-absent f = record { ready = ready; told = subst (Absent w pattern) (sym e) (finds-nothing text-finds f) }

    pub due-found : {i : ℕ} → r ≡ Some i → Awaited w p pattern (Some (record { source = record { at = from; n = n }; out = started (most_symbols - from); first = i }))
    due-found f =
        let regions = placed-regions ready e in
        let l = length_part from n w regions.source in let i = finds-within text-finds f in
        record {
          ready = ready;
          told = record { text = e; other = refl; regions = regions; short = (placed-text ready e).1; within = omega arith; found = finds-at text-finds f };
        }

module _ {w pattern : List ℕ} {p : Progress} {r : Maybe Due} (awaited : Awaited w p pattern r) where
  -- ---- there is nothing to do: the stage leaves buffer and progress as they are
  pub staged-idle : r ≡ None → (f : List ℕ → Result (List ℕ)) → ((s : List ℕ) → length s ≤ most_symbols → find pattern s ≡ none → f s ≡ passed s) → Staged w w p p f
  staged-idle e f same =
      record {
        answered = record { answer = go p awaited.ready.placed (subst (Told w p pattern) e awaited.told); long = refl; placed = awaited.ready.placed };
        beyond = refl;
      }
    where
      go : (q : Progress) → Placed q → Absent w pattern q → shown q w ≡ (shown q w then f)
      go (Ok t) placed absent = let l = length-take t.n (drop t.at w) in let h = placed.1 in sym (same (part t.at t.n w) (omega arith) absent)
      go (Err k) placed absent = refl

  -- the same of a definition that leaves a text without the pattern as it is
  pub staged-absent : r ≡ None → (f : List ℕ → List ℕ) → ((s : List ℕ) → find pattern s ≡ none → f s ≡ s) → Staged w w p p (stage f)
  staged-absent e f same = staged-idle e (stage f) (λ s short absent. ap (λ t. grown t t) (same s absent) ∙ grown-short s short)

  -- ---- the text is rewritten
  module _ {from n : ℕ} {o : Writer} {i : ℕ} (e : r ≡ Some (record { source = record { at = from; n = n }; out = o; first = i })) where
    pub pattern-occurs : Occurs w p pattern from n o i
    pattern-occurs = subst (Told w p pattern) e awaited.told

    -- the stage leaves the text as it is, though the pattern stands there
    pub staged-kept : (f : List ℕ → List ℕ) → f (part from n w) ≡ part from n w → Staged w w p p (stage f)
    staged-kept f same = subst (λ q. Staged w w p q (stage f)) (sym pattern-occurs.text) (staged-same awaited.ready pattern-occurs.text f same)

    pub none-written : o.count ≡ 0
    none-written = ap (λ k. k.count) pattern-occurs.other

    module _ {w' : List ℕ} {o' : Writer} where
      pub staged-rewritten : {p' : Progress} (f : List ℕ → List ℕ) → Written w w' o o' (f (part from n w)) → p' ≡ judged o' → Staged w w' p p' (stage f)
      staged-rewritten f written j = staged-written awaited.ready pattern-occurs.text f (rw pattern-occurs.other at written) refl j

      -- the same of a text that has been appended to none
      pub staged-appended : {p' : Progress} (f : List ℕ → List ℕ) → Appended w w' o o' (f (part from n w)) → p' ≡ judged o' → Staged w w' p p' (stage f)
      staged-appended f a = staged-rewritten f (appended-written a none-written pattern-occurs.regions.region)

      -- the stage has written to the other region, and comes to p'
      pub staged-answer : {t : List ℕ} {p' : Progress} (f : List ℕ → Result (List ℕ)) → Appended w w' o o' t → shown p' w' ≡ f (part from n w) → Placed p' → Staged w w' p p' f
      staged-answer f a answer placed =
          let wrote = (appended-written a none-written pattern-occurs.regions.region).wrote in
          let at = ap (λ k. k.to) pattern-occurs.other in let cap = ap (λ k. k.cap) pattern-occurs.other in
          record {
            answered = record { answer = answer ∙ sym (ap (λ q. shown q w then f) pattern-occurs.text); long = wrote.long; placed = placed };
            beyond = wrote-beyond {k = half_work} wrote (omega arith);
          }

      pub other-placed : {t : List ℕ} → Appended w w' o o' t → (o'.to ≡ 0) ⊎ (o'.to ≡ most_symbols)
      other-placed a =
          let at = ap (λ k. k.to) pattern-occurs.other in let same = a.same-place in
          ⊎_elim (λ z. inr (omega arith)) (λ z. inl (omega arith)) (placed-text awaited.ready pattern-occurs.text).0
