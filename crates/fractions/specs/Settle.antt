-- Rounds until nothing changes, with numbers 5, 7 and 9 in the order of document 01.
--     Stepped     one round in code: what it makes of the text
--     Going       k rounds have changed the text, and the rounds that are left decide
-- Assumes nothing.
use Rattle.std.specs.Prelude.{◌≡◌, refl, Bool, true, false, ℕ, suc, ◌+◌, ◌-◌, ◌≤◌, ◌<◌, ltb, length, drop}
use Rattle.std.proofs.Common.{sym, ap₂, ◌∙◌, subst, inl, inr, ⊎_elim, arith, lt-ltb, le-ltb}
use Rattle.std.proofs.Math.Path.{ap}
use Rattle.std.proofs.lemmas.Bool.{false≢true}
use Rattle.std.proofs.Math.Bool.{cond}
use mathlib.Core.List.{List, [], ◌∷◌, reverse_aux}
use Rattle.std.proofs.Math.Option.{Option, none, some}
use Rattle.text_search.specs.Half.{half_work}
use Rattle.spec.specs.Symbols.{bytes, same, find}
use Rattle.spec.specs.Result.{Result, passed, refused, most_symbols}
use Rattle.spec.specs.Fractions.{Done, nothing_done, fractions_from, convert_regular_fractions, settle, convert_fractions}
use Rattle.spec.specs.Laws.Names.{same_refl, same-other-length}
use Rattle.spec.specs.Laws.Symbols.{find-nowhere}
use Rattle.text_symbols.specs.Parts.{part, length_part, whole_part}
use Rattle.text.specs.Writer.{started}
use Rattle.text.specs.Written.{Wrote, wrote-less, wrote-text, wrote-apart, wrote-beyond}
use Rattle.text.specs.Stage.{Progress, Text, shown, Placed, Ready, Staged, judged, placed-text, placed-regions}
use Rattle.text.specs.declared.Refusal.{Refusal}
use Rattle.std.proofs.Math.Decide.{dec_lt}
use Rattle.std.specs.Result.{is_err}
use Rattle.text.specs.declared.Refusal.TheVariants.{Overgrown, Unsettled, BarredSolidus}
use Rattle.text.specs.Due.{Awaited, staged-idle}
use Rattle.text.specs.declared.Due.{Due}
use Rattle.text.specs.declared.TextPlace.{TextPlace}
use Rattle.std.specs.Prelude.{Option as Maybe, Some, None, Result as Either, Ok, Err, IsErr}
use Rattle.fraction_round.specs.declared.Barred.{Barred}
use Rattle.fraction_round.specs.Turn.{Outcome, outcome_length, outcome_text, Rounded}

-- ---- what a round makes of a text
pub data NextText : Type 0 where
  unchanged : NextText
  changed : List ℕ → NextText
  barred : NextText

abbrev next_of : List ℕ → Option (List ℕ) → NextText
next_of s none = barred
next_of s (some t) = cond (same t s) unchanged (changed t)

unfoldable pub after_round : List ℕ → NextText
after_round s = next_of s (convert_regular_fractions s)

-- the rounds, by what the next one makes of the text
abbrev last_of : List ℕ → NextText → Result (List ℕ)
last_of s unchanged = passed s
last_of s (changed t) = refused 7
last_of s barred = refused 7

abbrev more_of : ℕ → List ℕ → NextText → Result (List ℕ)
more_of k s unchanged = passed s
more_of k s (changed t) = cond (ltb most_symbols (length t)) (refused 5) (settle k t)
more_of k s barred = refused 9

settle-last : (s : List ℕ) → settle 0 s ≡ last_of s (after_round s)
unfolding settle after_round
settle-last s = go (convert_regular_fractions s)
  where
    by : (t : List ℕ) (b : Bool) → cond b (passed s) (refused 7) ≡ last_of s (cond b unchanged (changed t))
    by t true = refl
    by t false = refl

    go : (r : Option (List ℕ)) → elim r [ none ↦ refused 7 | some t ↦ cond (same t s) (passed s) (refused 7) ] ≡ last_of s (next_of s r)
    go none = refl
    go (some t) = by t (same t s)

settle-more : (k : ℕ) (s : List ℕ) → settle (suc k) s ≡ more_of k s (after_round s)
unfolding settle after_round
settle-more k s = go (convert_regular_fractions s)
  where
    grown : (t : List ℕ) (b : Bool) → elim b [ true ↦ refused 5 | false ↦ settle k t ] ≡ cond b (refused 5) (settle k t)
    grown t true = refl
    grown t false = refl

    by : (t : List ℕ) (b : Bool) → elim b [ true ↦ passed s | false ↦ elim (ltb most_symbols (length t)) [ true ↦ refused 5 | false ↦ settle k t ] ] ≡ more_of k s (cond b unchanged (changed t))
    by t true = refl
    by t false = grown t (ltb most_symbols (length t))

    go : (r : Option (List ℕ))
        → elim r [ none ↦ refused 9 | some t ↦ elim (same t s) [ true ↦ passed s | false ↦ elim (ltb most_symbols (length t)) [ true ↦ refused 5 | false ↦ settle k t ] ] ]
        ≡ more_of k s (next_of s r)
    go none = refl
    go (some t) = by t (same t s)

-- ---- one round in code, from one region to the other: the new length where it changes the text, or number 9
abbrev pub Round : Type 0
Round = Either (Maybe ℕ) Barred

abbrev pub next_as : Round → List ℕ → NextText
next_as (Ok None) t = unchanged
next_as (Ok (Some n)) t = changed t
next_as (Err b) t = barred

abbrev pub grown_to : Round → ℕ
grown_to (Ok None) = 0
grown_to (Ok (Some n)) = n
grown_to (Err b) = 0

pub record Stepped (w₀ w : List ℕ) (text : TextPlace) (r : Round) : Type 0 where
  pub out : List ℕ
  pub decides : next_as r out ≡ after_round (part text.at text.n w₀)
  pub counted : grown_to r ≡ length out
  pub wrote : Wrote w₀ w (started (most_symbols - text.at)) out

module _ {w₀ w : List ℕ} {text : TextPlace} {r : Outcome} (ready : Ready w₀ (Ok text)) (d : Rounded (part text.at text.n w₀) w₀ w (most_symbols - text.at) r) where
  -- the round that answers an error answers one too
  pub step-barred : {b : Barred} → r ≡ Err b → (x : Round) → IsErr x → Stepped w₀ w text x
  unfolding after_round
  step-barred e (Ok y) h = absurd (false≢true h)
  step-barred e (Err b) h =
      record { out = []; decides = ap (next_of (part text.at text.n w₀)) (sym (ap (λ x. outcome_text x d.out) e) ∙ d.decides); counted = refl; wrote = wrote-less 0 d.wrote }

  module _ {count : ℕ} (done : r ≡ Ok count) where
    length-out : count ≡ length d.out
    length-out = sym (ap outcome_length done) ∙ d.counted

    step-next : {b : Bool} → same d.out (part text.at text.n w₀) ≡ b → after_round (part text.at text.n w₀) ≡ cond b unchanged (changed d.out)
    unfolding after_round
    step-next e = ap (next_of (part text.at text.n w₀)) (sym d.decides ∙ ap (λ x. outcome_text x d.out) done) ∙ ap (λ x. cond x unchanged (changed d.out)) e

    differs : same d.out (part text.at text.n w₀) ≡ false → Stepped w₀ w text (Ok (Some count))
    differs e = record { out = d.out; decides = sym (step-next e); counted = length-out; wrote = d.wrote }

    pub step-longer : (count ≡ text.n → ⊥) → Stepped w₀ w text (Ok (Some count))
    step-longer other =
        let c = length-out in let l = length_part text.at text.n w₀ (placed-regions ready refl).source in
        differs (same-other-length d.out (part text.at text.n w₀) (λ h. other (omega arith)))

    -- the code compares the two regions
    module _
        (even : count ≡ text.n) {b : Bool}
        (compared : b ≡ same (part (most_symbols - text.at) (most_symbols - text.at + text.n - (most_symbols - text.at)) w) (part text.at (text.at + text.n - text.at) w))
      where
        same_out : same d.out (part text.at text.n w₀) ≡ b
        same_out =
            let from = text.at in let n = text.n in
            let regions = placed-regions ready refl in
            let c = length-out in let h = (placed-text ready refl).1 in
            let f : n ≡ length d.out = omega arith in
            let fresh : part (most_symbols - from) (most_symbols - from + n - (most_symbols - from)) w ≡ d.out =
            whole_part (most_symbols - from) n w ∙ ap (λ j. part (most_symbols - from) j w) f ∙ wrote-text d.wrote regions.region (omega arith)
            in
            sym (compared ∙ ap₂ same fresh (whole_part from n w ∙ wrote-apart d.wrote from n regions.apart))

        pub step_same : b ≡ true → Stepped w₀ w text (Ok None)
        step_same e = record { out = []; decides = sym (step-next (same_out ∙ e)); counted = refl; wrote = wrote-less 0 d.wrote }

        pub step-changed : b ≡ false → Stepped w₀ w text (Ok (Some count))
        step-changed e = differs (same_out ∙ e)

-- ---- what a round leaves as it was
module _ {w₀ w : List ℕ} {text : TextPlace} {r : Round} (ready : Ready w₀ (Ok text)) (d : Stepped w₀ w text r) where
  told : {x : Round} → r ≡ x → after_round (part text.at text.n w₀) ≡ next_as x d.out
  told e = sym d.decides ∙ ap (λ x. next_as x d.out) e

  source-kept : part text.at text.n w ≡ part text.at text.n w₀
  source-kept = wrote-apart d.wrote text.at text.n (placed-regions ready refl).apart

  beyond-kept : drop half_work w ≡ drop half_work w₀
  beyond-kept = wrote-beyond {k = half_work} d.wrote (⊎_elim (λ z. omega arith) (λ z. omega arith) (placed-text ready refl).0)

  -- the round after the last that may change the text
  last-answer : {x : Progress} → shown x w ≡ last_of (part text.at text.n w₀) (after_round (part text.at text.n w₀)) → Placed x → Staged w₀ w (Ok text) x (settle 0)
  last-answer e p = record { answered = record { answer = e ∙ sym (settle-last (part text.at text.n w₀)); long = d.wrote.long; placed = p }; beyond = beyond-kept }

  pub last-unchanged : r ≡ Ok None → Staged w₀ w (Ok text) (Ok text) (settle 0)
  last-unchanged e = last-answer (ap passed source-kept ∙ sym (ap (last_of (part text.at text.n w₀)) (told e))) ready.placed

  pub last-changed : {count : ℕ} → r ≡ Ok (Some count) → Staged w₀ w (Ok text) (Err Unsettled) (settle 0)
  last-changed e = last-answer (sym (ap (last_of (part text.at text.n w₀)) (told e))) tt

  pub last-barred : {b : Barred} → r ≡ Err b → Staged w₀ w (Ok text) (Err Unsettled) (settle 0)
  last-barred e = last-answer (sym (ap (last_of (part text.at text.n w₀)) (told e))) tt

-- the place of a progress's text, or another
abbrev place_or : TextPlace → Progress → TextPlace
place_or other (Ok t) = t
place_or other (Err k) = other

-- ---- the rounds: the first text has become another
pub record Going (w₀ w : List ℕ) (first text : TextPlace) (k : ℕ) : Type 0 where
  pub same-as-whole : settle 64 (part first.at first.n w₀) ≡ settle (64 - k) (part text.at text.n w)
  pub ready : Ready w (Ok text)
  pub long : length w ≡ length w₀
  pub beyond : drop half_work w ≡ drop half_work w₀

-- no round may change the text any more
pub going-last : {w₀ w w' : List ℕ} {first text : TextPlace} {k : ℕ} {r : Progress} → Going w₀ w first text k → 64 ≤ k → Staged w w' (Ok text) r (settle 0) → Staged w₀ w' (Ok first) r convert_fractions
unfolding convert_fractions
going-last {w = w} {text = text} {k} g all a =
    let z : 64 - k ≡ 0 = omega arith in
    record {
      answered = record {
        answer = a.answered.answer ∙ sym (g.same-as-whole ∙ ap (λ j. settle j (part text.at text.n w)) z);
        long = a.answered.long ∙ g.long;
        placed = a.answered.placed;
      };
      beyond = a.beyond ∙ g.beyond;
    }

module _ {w₀ w w' : List ℕ} {first text : TextPlace} {k : ℕ} {r : Round} (g : Going w₀ w first text k) (d : Stepped w w' text r) (more : k < 64) where
  rounds-more : {x : Round} → r ≡ x → settle 64 (part first.at first.n w₀) ≡ more_of (64 - (k + 1)) (part text.at text.n w) (next_as x d.out)
  rounds-more e =
      let f : 64 - k ≡ suc (64 - (k + 1)) = omega arith in
      g.same-as-whole ∙ ap (λ j. settle j (part text.at text.n w)) f ∙ settle-more (64 - (k + 1)) (part text.at text.n w)
      ∙ ap (more_of (64 - (k + 1)) (part text.at text.n w)) (told g.ready d e)

  answered-by : {x : Progress} → shown x w' ≡ settle 64 (part first.at first.n w₀) → Placed x → Staged w₀ w' (Ok first) x convert_fractions
  unfolding convert_fractions
  answered-by e p = record { answered = record { answer = e; long = d.wrote.long ∙ g.long; placed = p }; beyond = beyond-kept g.ready d ∙ g.beyond }

  pub going_settled : r ≡ Ok None → Staged w₀ w' (Ok first) (Ok text) convert_fractions
  going_settled e = answered-by (ap passed (source-kept g.ready d) ∙ sym (rounds-more e)) g.ready.placed

  pub going-barred : {b : Barred} → r ≡ Err b → Staged w₀ w' (Ok first) (Err BarredSolidus) convert_fractions
  going-barred e = answered-by (sym (rounds-more e)) tt

  module _ {count : ℕ} (e : r ≡ Ok (Some count)) where
    count-out : count ≡ length d.out
    count-out = sym (ap grown_to e) ∙ d.counted

    going-overgrown : most_symbols < count → Staged w₀ w' (Ok first) (Err Overgrown) convert_fractions
    going-overgrown h = let c = count-out in let l = lt-ltb most_symbols (length d.out) (omega arith) in answered-by (sym (rounds-more e ∙ rw l)) tt

    going_on : count ≤ most_symbols → Going w₀ w' first (record { at = most_symbols - text.at; n = count }) (k + 1)
    going_on h =
        let c = count-out in
        let l = le-ltb most_symbols (length d.out) (omega arith) in
        let long = d.wrote.long in let wide = g.ready.long in
        let t : part (most_symbols - text.at) count w' ≡ d.out = ap (λ j. part (most_symbols - text.at) j w') c ∙ wrote-text d.wrote (placed-regions g.ready refl).region (omega arith) in
        record {
          same-as-whole = rounds-more e ∙ rw l (ap (settle (64 - (k + 1))) (sym t));
          ready = record { long = omega arith; placed = (⊎_elim (λ z. inr (omega arith)) (λ z. inl (omega arith)) (placed-text g.ready refl).0, h) };
          long = d.wrote.long ∙ g.long;
          beyond = beyond-kept g.ready d ∙ g.beyond;
        }

    -- the new text has been judged by its length
    module _ {x : Progress} (judged-so : x ≡ judged (record { to = most_symbols - text.at; cap = most_symbols; count = count })) where
      overgrown : most_symbols < count → x ≡ Err Overgrown
      overgrown h = judged-so ∙ rw (lt-ltb most_symbols count h)

      fits : count ≤ most_symbols → x ≡ Text (most_symbols - text.at) count
      fits h = judged-so ∙ rw (le-ltb most_symbols count h)

      pub going-refused : {why : Refusal} → x ≡ Err why → Staged w₀ w' (Ok first) (Err why) convert_fractions
      going-refused {why} f = go (dec_lt most_symbols count)
        where
          go : Dec (most_symbols < count) → Staged w₀ w' (Ok first) (Err why) convert_fractions
          go (yes h) = subst (λ p. Staged w₀ w' (Ok first) p convert_fractions) (sym (overgrown h) ∙ f) (going-overgrown h)
          go (no h) = absurd (false≢true (ap is_err (sym (fits (omega arith)) ∙ f)))

      pub going-judged : {next : TextPlace} → x ≡ Ok next → Going w₀ w' first next (k + 1)
      going-judged {next} f = go (dec_lt most_symbols count)
        where
          go : Dec (most_symbols < count) → Going w₀ w' first next (k + 1)
          go (yes h) = absurd (false≢true (ap is_err (sym f ∙ overgrown h)))
          go (no h) = subst (λ p. Going w₀ w' first p (k + 1)) (ap (place_or text) (sym (fits (omega arith)) ∙ f)) (going_on (omega arith))

-- ---- a text with no slash
reverse-whole : (done : Done) (p o s : List ℕ) → find (bytes "/") s ≡ none → fractions_from 0 done p o s ≡ some (reverse_aux o s)
unfolding fractions_from
reverse-whole done p o [] e = refl
reverse-whole done p o (x ∷ s) e = let here = find-nowhere (bytes "/") x s e in rw (here.0, fractions_from) (reverse-whole done (x ∷ p) (x ∷ o) s here.1)

slashless : (s : List ℕ) → find (bytes "/") s ≡ none → convert_fractions s ≡ passed s
unfolding convert_fractions convert_regular_fractions after_round
slashless s e =
    settle-more 63 s ∙ ap (λ r. more_of 63 s (next_of s r)) (reverse-whole nothing_done [] [] s e)
    ∙ ap (λ b. more_of 63 s (cond b unchanged (changed s))) (same_refl s)

module _ {w : List ℕ} {p : Progress} {r : Maybe Due} (awaited : Awaited w p (bytes "/") r) where
  pub staged-slashless : r ≡ None → Staged w w p p convert_fractions
  staged-slashless e = staged-idle awaited e convert_fractions (λ s h bare. slashless s bare)
