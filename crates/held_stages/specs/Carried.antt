-- A text that has been rewritten between its marks, and putting its blocks back.
--     Carries           what the put-back asks: the blocks of h are held, and the text with them is well made and not too long
--     carries-staged    so it is after stages that count the held blocks
--     outside-answered  holding out, such stages, and putting back are the definitions' stage
--     outside-untouched with no block and no match, all of them leave every byte as it was
-- Assumes nothing.
use Rattle.std.specs.Prelude.{◌≡◌, refl, Bool, true, cond, ℕ, ◌+◌, ◌-◌, ◌≤◌, ltb, Ok, Err}
use Rattle.std.proofs.Common.{sym, ap, ◌∙◌, subst, inl, inr, ⊎_elim, arith}
use Rattle.std.proofs.Math.Path.{ap₂}
use Rattle.std.proofs.Math.Bool.{false}
use mathlib.Core.List.{List, [], ◌∷◌, ◌++◌}
use Rattle.std.proofs.Math.ListN.{length}
use Rattle.text_search.specs.Half.{half_work}
use Rattle.spec.specs.Symbols.{text_mark, roman_mark}
use Rattle.spec.specs.Held.{Held, with_text, in_full, filled, held_stage, hold_texts, hold_both, put_back}
use Rattle.spec.specs.Result.{Result, passed, refused, ◌then◌, most_symbols}
use Rattle.spec.specs.Matches.{Match, any_match, text_opening, roman_opening}
use Rattle.spec.specs.Laws.Booleans.{or-neither}
use Rattle.spec.specs.Laws.Held.{hold-texts-none, hold-both-none, filled_none}
use Rattle.text_symbols.specs.Parts.{part, length_part}
use Rattle.text.specs.Writer.{Appended, Apart, appended-long}
use Rattle.text.specs.Written.{appended-text}
use Rattle.text.specs.Stage.{Ready, Placed, Answered, shown, placed-text, placed-regions, Progress, Text}
use Rattle.text.specs.Untouched.{Untouched, untouched-then, any-parts}
use Rattle.text.specs.declared.Refusal.{Refusal}
use Rattle.held_laws.specs.Marks.{count, concat}
use Rattle.held_laws.specs.WellMade.{symbols_of, texts_of, WellMade}
use Rattle.held_laws.specs.Enclosed.{by_order}
use Rattle.held_laws.specs.InFull.{in-full-order}
use Rattle.held_blocks.specs.Filing.{text_from}
use Rattle.held_blocks.specs.Back.{Back, stored_from}
use Rattle.held_blocks.specs.Holds.{Holds, holds-rewritten, back-romans, romans-back, back-texts, all_back}
use Rattle.name_entry.specs.Sized.{FitsWithBlocks, StagedWithin, sized}
use Rattle.held_stages.specs.declared.OutsideText.{OutsideText}
use Rattle.held_stages.specs.Outside.{HeldFrom, Extra, none-held, full-long, half-short, used-symbols}

-- a text of n symbols at `at`, between whose marks the blocks of h are to be put back
pub record AwaitsBlocks (w : List ℕ) (at n texts used : ℕ) (h : Held) : Type 0 where
  pub filed : ℕ
  pub holds : Holds w at (record { len = n; blocks = record { used = used; filed = filed } }) (with_text h (part at n w))
  pub well-made : WellMade (with_text h (part at n w))
  pub short : length (in_full (with_text h (part at n w))) ≤ most_symbols
  pub many : texts ≡ length (texts_of h)

pub record Carries (w : List ℕ) (p : Progress) (texts used : ℕ) (h : Held) : Type 0 where
  pub ready : Ready w p
  pub marked : (at n : ℕ) → p ≡ Text at n → AwaitsBlocks w at n texts used h

pub record Carried (w : List ℕ) (p : Progress) (texts used : ℕ) : Type 0 where
  pub held : Held
  pub carries : Carries w p texts used held

-- ---- putting back
-- a text that has been refused before
pub back-refused : {w : List ℕ} {p : Progress} (f : List ℕ → Result (List ℕ)) (k : Refusal) → p ≡ Err k → Answered w w p p f
back-refused {w} {p} f k e =
    record { answer = ap (λ q. shown q w) e ∙ ap (λ q. shown q w then f) (sym e); long = refl; placed = subst Placed (sym e) tt }

module _ {w : List ℕ} {p : Progress} {texts used from n : ℕ} {h : Held} (carries : Carries w p texts used h) (e : p ≡ Text from n) where
  marked : AwaitsBlocks w from n texts used h
  marked = carries.marked from n e

  region : from + most_symbols ≤ half_work
  region = ⊎_elim (λ z. omega arith) (λ z. omega arith) (placed-text carries.ready e).0

  other : (most_symbols - from) + most_symbols ≤ half_work
  other = ⊎_elim (λ z. omega arith) (λ z. omega arith) (placed-text carries.ready e).0

  -- no block is held
  pub back_none : used ≡ 0 → Answered w w p p (λ t. put_back (with_text h t))
  back_none z =
      let made = marked.well-made in
      let many = used-symbols marked.holds made in
      let none = none-held made (omega arith) in
      let same : in_full (with_text h (part from n w)) ≡ part from n w =
      in-full-order made ∙ ap₂ (λ texts romans. by_order texts romans (part from n w)) none.0 none.1 ∙ ap (filled text_mark []) (filled_none roman_mark (part from n w)) ∙ filled_none text_mark (part from n w) in
      record {
        answer = ap (λ q. shown q w) e ∙ sym (ap (λ q. shown q w then (λ t. put_back (with_text h t))) e ∙ ap passed same);
        long = refl;
        placed = carries.ready.placed;
      }

  pub romans-asked : Back w from n (most_symbols - from) roman_mark texts
  romans-asked =
      rw marked.many (back-romans marked.holds marked.well-made region other (placed-regions carries.ready e).apart)

  module _
      {w' : List ℕ} {half : ℕ}
      (a : Appended w w' (text_from (most_symbols - from) 0) (text_from (most_symbols - from) half) (filled roman_mark (stored_from w texts (count roman_mark (part from n w))) (part from n w)))
    where
      romans : Appended w w' (text_from (most_symbols - from) 0) (text_from (most_symbols - from) half) (filled roman_mark (stored_from w (length (texts_of h)) (count roman_mark (part from n w))) (part from n w))
      romans = subst (λ k. Appended w w' (text_from (most_symbols - from) 0) (text_from (most_symbols - from) half) (filled roman_mark (stored_from w k (count roman_mark (part from n w))) (part from n w))) marked.many a

      half-fits : half ≤ most_symbols
      half-fits =
          let c = (romans-back marked.holds marked.well-made region other (placed-regions carries.ready e).apart romans).counted in
          let s = half-short marked.well-made in let m = marked.short in
          omega arith

      away : Apart (most_symbols - from) half (text_from from 0)
      away = let s = half-fits in ⊎_elim (λ z. inr (omega arith)) (λ z. inl (omega arith)) (placed-text carries.ready e).0

      pub texts-asked : Back w' (most_symbols - from) half from text_mark 0
      texts-asked = back-texts marked.holds marked.well-made region other (placed-regions carries.ready e).apart romans half-fits region away

      pub back_whole :
          {w'' : List ℕ} {len : ℕ}
          → Appended w' w'' (text_from from 0) (text_from from len) (filled text_mark (stored_from w' 0 (count text_mark (part (most_symbols - from) half w'))) (part (most_symbols - from) half w'))
          → Answered w w'' p (Text from len) (λ t. put_back (with_text h t))
      back_whole {w''} {len} b =
          let whole = all_back marked.holds marked.well-made region other (placed-regions carries.ready e).apart romans half-fits b in
          let c = whole.counted in let m = marked.short in
          let fits : len ≤ most_symbols = omega arith in
          let la = appended-long a in let long = carries.ready.long in let r = region in
          record {
            answer = ap passed (appended-text whole refl (omega arith) fits)
                ∙ sym (ap (λ q. shown q w then (λ t. put_back (with_text h t))) e);
            long = appended-long b ∙ la;
            placed = ((placed-text carries.ready e).0, fits);
          }

-- ---- stages between the marks
-- of a stage that counts held blocks in full
pub held-sized :
    (extra : ℕ) (f : List ℕ → List ℕ) (h : Held) → Extra h extra → WellMade (with_text h (f h.text))
    → held_stage f h ≡ (sized extra f h.text then (λ t. passed (with_text h t)))
held-sized extra f h e made =
    ap (λ n. cond (ltb most_symbols n) (refused 5) (passed (with_text h (f h.text)))) (full-long made extra e)
    ∙ go (ltb most_symbols (length (f h.text) + extra))
  where
    go : (t : Bool)
        → cond {A = Result Held} t (refused 5) (passed (with_text h (f h.text))) ≡ ((cond {A = Result (List ℕ)} t (refused 5) (passed (f h.text))) then (λ s. passed (with_text h s)))
    go true = refl
    go false = refl

module _
    {w w₁ w₂ : List ℕ} {r : OutsideText} {p : Progress} {h : Held} {f : List ℕ → Result (List ℕ)}
    (from : HeldFrom w w₁ r h) (staged : StagedWithin w₁ w₂ (Ok r.text) p r.extra f)
    (made : (t : List ℕ) → f h.text ≡ passed t → WellMade (with_text h t))
  where
    done : shown p w₂ ≡ f h.text
    done = staged.staged.answered.answer ∙ ap f from.holds.text

    pub carries-staged : Carries w₂ p r.texts r.used h
    carries-staged =
        let l = staged.staged.answered.long in let long = from.holds.keeps.long in
        record { ready = record { long = omega arith; placed = staged.staged.answered.placed }; marked = λ at n e. at-text at n e }
      where
        at-text : (at n : ℕ) → p ≡ Text at n → AwaitsBlocks w₂ at n r.texts r.used h
        at-text at n e =
            let whole = made (part at n w₂) (sym done ∙ ap (λ q. shown q w₂) e) in
            let place = subst Placed e staged.staged.answered.placed in
            let size = place.1 in
            let within = subst (FitsWithBlocks r.extra) e staged.within in
            let full = full-long whole r.extra from.extra in
            let l = staged.staged.answered.long in let long = from.holds.keeps.long in
            let fits : at + n ≤ length w₂ = ⊎_elim (λ z. omega arith) (λ z. omega arith) place.0 in
            let m = length_part at n w₂ fits in
            record {
              filed = from.filed;
              holds = holds-rewritten from.holds staged.staged.answered.long staged.staged.beyond refl place.1;
              well-made = whole;
              short = omega arith;
              many = from.texts;
            }

    pub outside-answered :
        {s : List ℕ} {p₀ p₃ : Progress} {w₃ : List ℕ} (g : Held → Result Held) → g h ≡ (f h.text then (λ t. passed (with_text h t)))
        → shown p₀ w ≡ passed s
        → Answered w₂ w₃ p p₃ (λ t. put_back (with_text h t))
        → (F : List ℕ → Result (List ℕ)) → F s ≡ (g h then put_back)
        → Answered w w₃ p₀ p₃ F
    outside-answered g same source back F is =
        record {
          answer = back.answer ∙ ap (λ q. q then (λ t. put_back (with_text h t))) done ∙ joined (f h.text) ∙ ap (λ q. q then put_back) (sym same) ∙ sym (ap (λ q. q then F) source ∙ is);
          long = back.long ∙ staged.staged.answered.long ∙ from.long;
          placed = back.placed;
        }
      where
        joined : (q : Result (List ℕ)) → (q then (λ t. put_back (with_text h t))) ≡ (q then (λ t. passed (with_text h t)) then put_back)
        joined (passed t) = refl
        joined (refused n) = refl

-- ---- no block is held
module _ {w w₁ : List ℕ} {r : OutsideText} (s : List ℕ) where
  none-used : {h : Held} → texts_of h ≡ [] → h.romans ≡ [] → HeldFrom w w₁ r h → r.used ≡ 0
  unfolding concat
  none-used t m from = from.holds.used ∙ ap₂ (λ (bs cs : List (List ℕ)). length (concat (bs ++ cs))) t m

  pub texts-unused : HeldFrom w w₁ r (hold_texts s) → any_match (text_opening ∷ []) s ≡ false → r.used ≡ 0
  unfolding symbols_of
  texts-unused from none =
      let e = hold-texts-none s (or-neither (text_opening s) false none).0 in
      none-used (ap texts_of e) (ap (λ (h : Held). h.romans) e) from

  pub both-unused : HeldFrom w w₁ r (hold_both s) → any_match (text_opening ∷ (roman_opening ∷ [])) s ≡ false → r.used ≡ 0
  unfolding symbols_of
  both-unused from none =
      let parts = or-neither (text_opening s) (any_match (roman_opening ∷ []) s) none in
      let e = hold-both-none s parts.0 (or-neither (roman_opening s) false parts.1).0 in
      none-used (ap texts_of e) (ap (λ (h : Held). h.romans) e) from

pub outside-untouched :
    {w w₁ w₂ w₃ : List ℕ} {from n at len used : ℕ} {p₀ p p₃ : Progress} (openings ms : List Match) → p₀ ≡ Text from n
    → Untouched w w₁ (Text from n) (Text at len) openings
    → Untouched w₁ w₂ (Text at len) p ms
    → (any_match openings (part from n w) ≡ false → used ≡ 0)
    → (used ≡ 0 → (w₃ ≡ w₂) × (p₃ ≡ p))
    → Untouched w w₃ p₀ p₃ (openings ++ ms)
outside-untouched {w} {w₃ = w₃} {from = from} {n} {p₃ = p₃} openings ms e held applied unused back =
    subst (λ q. Untouched w w₃ q p₃ (openings ++ ms)) (sym e)
    (record {
      stays = λ none.
          let same = (untouched-then openings ms held applied).stays none in
          let last = back (unused (any-parts openings ms (part from n w) none).0) in
          (last.0 ∙ same.0, last.1 ∙ same.1);
    })
