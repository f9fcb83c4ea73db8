-- The turns of a round.
--     Rounded       what a round ensures: the text that it has written, or number 9
--     Converting    the loop stands at place i, the marks keep what the round has done, and the rest of the text finishes what has been written
-- Assumes nothing.
use Rattle.std.specs.Prelude.{◌≡◌, refl, ℕ, zero, suc, ◌+◌, ◌-◌, ◌*◌, ◌≤◌, ◌<◌, length, get_or, take, drop}
use Rattle.std.proofs.Math.Path.{sym, ap}
use Rattle.std.proofs.Common.{ap₂, ◌∙◌, subst, add-zero, arith}
use Rattle.std.proofs.lemmas.Bool.{false≢true}
use mathlib.Core.List.{List, [], ◌∷◌, ◌++◌, reverse, reverse_aux, reverse-append, reverse_aux-append, reverse-reverse}
use Rattle.std.proofs.Math.Option.{Option, none, some}
use Prim.Native.Char.{code}
use borrow.Author.Tests.{eq-eqb, ne_eqb}
use Rattle.spec.specs.Result.{most_symbols}
use Rattle.spec.specs.Fractions.{Done, Step, nothing_done, slash, fractions_from, convert_regular_fractions}
use Rattle.spec.specs.Laws.Symbols.{drop-step, drop-reverse}
use Rattle.text_symbols.specs.Parts.{part, length_part, whole_part}
use Rattle.text.specs.declared.writer.Writer.{Writer}
use Rattle.text.specs.Writer.{Appended, Regions, started, cut_by}
use Rattle.text.specs.Written.{Wrote, Writing, writing-none, writing_more, writing-less, wrote-less, wrote-apart, wrote-read}
use Rattle.text_symbols.specs.Places.{before, before-next, drop-none}
use Rattle.fraction_round.specs.declared.Operands.{Operands}
use Rattle.fraction_round.specs.declared.Barred.{Barred}
use Rattle.std.specs.Prelude.{Bool, false, Some, None, Result as Either, Ok, Err, IsErr}
use Rattle.fraction_numerators.specs.Script.{Scriptless}
use Rattle.fraction_left.specs.Left.{Kept, rewritten_to}
use Rattle.fraction_left.specs.declared.Marks.{Marks}
use Rattle.fraction_round.specs.Slash.{fraction, Slash, decided, Ordered, Slashed, slashed-ordered}
use Rattle.fraction_round.specs.Writing.{fraction-small}

-- ---- what a round answers
abbrev pub Outcome : Type 0
Outcome = Either ℕ Barred

abbrev pub outcome_length : Outcome → ℕ
outcome_length (Ok n) = n
outcome_length (Err b) = 0

abbrev pub outcome_text : Outcome → List ℕ → Option (List ℕ)
outcome_text (Ok n) t = some t
outcome_text (Err b) t = none

pub record Rounded (s w₀ w : List ℕ) (to : ℕ) (r : Outcome) : Type 0 where
  pub out : List ℕ
  pub decides : outcome_text r out ≡ convert_regular_fractions s
  pub counted : outcome_length r ≡ length out
  pub wrote : Wrote w₀ w (started to) out

-- ---- the round from place i on, with `out` written so far
abbrev pub round_from : List ℕ → Done → ℕ → List ℕ → Option (List ℕ)
round_from s done i out = fractions_from 0 done (before s i) (reverse out) (drop i s)

-- symbols that belong to a denominator are passed
skipped : (k : ℕ) (s : List ℕ) (done : Done) (o : List ℕ) (i : ℕ) → i + k ≤ length s → fractions_from k done (before s i) o (drop i s) ≡ fractions_from 0 done (before s (i + k)) o (drop (i + k) s)
unfolding fractions_from
skipped zero s done o i h = ap (λ j. fractions_from 0 done (before s j) o (drop j s)) (sym (add-zero i))
skipped (suc k) s done o i h =
    let e : i + 1 + k ≡ i + suc k = omega arith in
    ap (fractions_from (suc k) done (before s i) o) (drop-step s i (omega arith))
    ∙ ap (λ p. fractions_from k done p o (drop (i + 1) s)) (sym (before-next s i (omega arith)))
    ∙ skipped k s done o (i + 1) (omega arith)
    ∙ ap (λ j. fractions_from 0 done (before s j) o (drop j s)) e

-- a slash that is copied
put-slash : (s : List ℕ) (i : ℕ) → get_or s i 0 ≡ code "/" → (done : Done) (out : List ℕ)
    → fractions_from 0 done (before s (i + 1)) (code "/" ∷ reverse out) (drop (i + 1) s) ≡ round_from s done (i + 1) (out ++ get_or s i 0 ∷ [])
put-slash s i is-slash done out =
    ap (λ o. fractions_from 0 done (before s (i + 1)) o (drop (i + 1) s)) (ap (λ x. x ∷ reverse out) (sym is-slash) ∙ sym (reverse-append out (get_or s i 0 ∷ [])))

module _ (s : List ℕ) (i : ℕ) (inside : i < length s) (done : Done) where
  pub round-copied : (get_or s i 0 ≡ code "/" → ⊥) → (out : List ℕ) → round_from s done i out ≡ round_from s done (i + 1) (out ++ get_or s i 0 ∷ [])
  unfolding fractions_from
  round-copied h out =
      let e = ne_eqb (get_or s i 0) (code "/") h in
      ap (fractions_from 0 done (before s i) (reverse out)) (drop-step s i inside) ∙ rw (e, fractions_from)
      (ap₂ (λ p o. fractions_from 0 done p o (drop (i + 1) s)) (sym (before-next s i inside)) (sym (reverse-append out (get_or s i 0 ∷ []))))

  module _ (is-slash : get_or s i 0 ≡ code "/") where
    turned : (o : List ℕ) {t : Option Step} → slash done (before s i) o (drop (i + 1) s) ≡ t
        → fractions_from 0 done (before s i) o (drop i s) ≡ elim t [ none ↦ none | some t ↦ fractions_from t.skip t.done (before s (i + 1)) t.written (drop (i + 1) s) ]
    unfolding fractions_from
    turned o e =
        let b = eq-eqb (get_or s i 0) (code "/") is-slash in
        ap (fractions_from 0 done (before s i) o) (drop-step s i inside) ∙ rw (b, fractions_from)
        (ap₂ (λ p t. elim t [ none ↦ none | some t ↦ fractions_from t.skip t.done p t.written (drop (i + 1) s) ]) (sym (before-next s i inside)) e)

    module _ {marks : Marks} {r : Slash} (slashed : Slashed s marks i done r) where
      told : (o : List ℕ) {x : Slash} → r ≡ x → slash done (before s i) o (drop (i + 1) s) ≡ decided s i slashed.next o x
      told o e = slashed.decides o ∙ ap (decided s i slashed.next o) e

      pub round-stays : r ≡ Ok None → (out : List ℕ) → round_from s done i out ≡ round_from s slashed.next (i + 1) (out ++ get_or s i 0 ∷ [])
      round-stays e out = turned (reverse out) (told (reverse out) e) ∙ put-slash s i is-slash slashed.next out

      pub round-barred : {b : Barred} → r ≡ Err b → (out : List ℕ) → round_from s done i out ≡ none
      round-barred e out = turned (reverse out) (told (reverse out) e)

      pub round-fraction :
          {f : Operands} → r ≡ Ok (Some f) → Ordered (length s) i f → (out : List ℕ)
          → round_from s done i out ≡ round_from s (rewritten_to slashed.next f.den.end) f.den.end (take (length out - (i - f.num.start)) out ++ fraction f s)
      round-fraction {f} e ord out =
          let k = i - f.num.start in
          let a = ord.behind-slash in let b = ord.denominator in let d = ord.within in
          let j : i + 1 + (f.den.end - (i + 1)) ≡ f.den.end = omega arith in
          let new : reverse (take (length out - k) out ++ fraction f s) ≡ reverse_aux (fraction f s) (drop k (reverse out)) = reverse_aux-append (take (length out - k) out) (fraction f s) [] ∙ ap (reverse_aux (fraction f s)) (sym (drop-reverse k out)) in
          turned (reverse out) (told (reverse out) e)
          ∙ skipped (f.den.end - (i + 1)) s (rewritten_to slashed.next f.den.end) (reverse_aux (fraction f s) (drop k (reverse out))) (i + 1) (omega arith)
          ∙ ap₂ (λ (x : ℕ) (o : List ℕ). fractions_from 0 (rewritten_to slashed.next f.den.end) (before s x) o (drop x s)) j (sym new)

-- ---- the loop: i of the n symbols at `from` have been read, and the marks keep what the round has done
pub record Converting (w₀ w : List ℕ) (from n to : ℕ) (o : Writer) (marks : Marks) (scripts : Bool) (i : ℕ) : Type 0 where
  pub regions : Regions w₀ from n (started to)
  pub short : n ≤ most_symbols
  pub within : i ≤ n
  pub few : o.count ≤ 16400 * i
  pub scriptless : scripts ≡ false → Scriptless (part from n w₀)
  pub done : Done
  pub kept : Kept marks (length (part from n w₀)) done
  pub writing : Writing w₀ w (started to) o (round_from (part from n w₀) done i) (convert_regular_fractions (part from n w₀))

pub converting-none :
    {w : List ℕ} {from n to : ℕ} {marks : Marks} {scripts : Bool}
    → Regions w from n (started to) → n ≤ most_symbols
    → (scripts ≡ false → Scriptless (part from (from + n - from) w))
    → Kept marks n nothing_done
    → Converting w w from n to (started to) marks scripts 0
unfolding convert_regular_fractions
converting-none {w} {from} {n} {to} regions short scriptless kept =
    record {
      regions = regions;
      short = short;
      within = omega arith;
      few = omega arith;
      scriptless = λ e. subst Scriptless (whole_part from n w) (scriptless e);
      done = nothing_done;
      kept = rw (length_part from n w regions.source) kept;
      writing = writing-none w (started to) (round_from (part from n w) nothing_done 0) refl;
    }

module _ {w₀ w : List ℕ} {from n to : ℕ} {o : Writer} {marks : Marks} {scripts : Bool} {i : ℕ} (t : Converting w₀ w from n to o marks scripts i) where
  abbrev source : List ℕ
  source = part from n w₀

  abbrev slice : List ℕ
  slice = part from (from + n - from) w

  source-length : length source ≡ n
  source-length = length_part from n w₀ t.regions.source

  -- the text is read as it was
  source-same : part from n w ≡ source
  source-same = wrote-apart t.writing.wrote from n t.regions.apart

  slice-same : slice ≡ source
  slice-same = whole_part from n w ∙ source-same

  pub slice-scriptless : scripts ≡ false → Scriptless slice
  slice-scriptless e = subst Scriptless (sym slice-same) (t.scriptless e)

  pub converting-all : n ≤ i → Rounded source w₀ w to (Ok o.count)
  unfolding fractions_from
  converting-all h =
      let out = t.writing.out in let l = source-length in
      record {
        out = out;
        decides = sym (sym t.writing.same-as-whole ∙ ap (fractions_from 0 t.done (before source i) (reverse out)) (drop-none source i (omega arith)) ∙ ap some (reverse-reverse out));
        counted = t.writing.counted;
        wrote = t.writing.wrote;
      }

  module _ (more : i < n) where
    inside : i < length source
    inside = let l = source-length in omega arith

    read : get_or w (from + i) 0 ≡ get_or source i 0
    read = wrote-read t.writing.wrote t.regions i more

    -- a symbol is copied, and the round has done `next` then
    copied-on :
        {w' : List ℕ} {o' : Writer} {marks' : Marks} {next : Done}
        → Kept marks' (length source) next
        → Appended w w' o o' (get_or w (from + i) 0 ∷ [])
        → ((out : List ℕ) → round_from source t.done i out ≡ round_from source next (i + 1) (out ++ get_or source i 0 ∷ []))
        → Converting w₀ w' from n to o' marks' scripts (i + 1)
    copied-on {next = next} kept a e =
        let n = a.counted in let few = t.few in
        record {
          regions = t.regions;
          short = t.short;
          within = omega arith;
          few = omega arith;
          scriptless = t.scriptless;
          done = next;
          kept = kept;
          writing = writing_more t.writing (round_from source next (i + 1)) t.regions.region (rw read at a) e;
        }

    pub converting-copied :
        {w' : List ℕ} {o' : Writer} → (get_or w (from + i) 0 ≡ code "/" → ⊥) → Appended w w' o o' (get_or w (from + i) 0 ∷ [])
        → Converting w₀ w' from n to o' marks scripts (i + 1)
    converting-copied other a = copied-on t.kept a (round-copied source i inside t.done (λ e. other (read ∙ e)))

    -- the symbol is a slash, and this is said of it
    module _
        (is-slash : get_or w (from + i) 0 ≡ code "/") {marks' : Marks} {r : Slash}
        (slashed : (done : Done) → Kept marks (length slice) done → Slashed slice marks' i done r)
      where
        here : Slashed source marks' i t.done r
        here = subst (λ s. (done : Done) → Kept marks (length s) done → Slashed s marks' i done r) slice-same slashed t.done t.kept

        slash-read : get_or source i 0 ≡ code "/"
        slash-read = sym read ∙ is-slash

        pub converting-stays :
            {w' : List ℕ} {o' : Writer} → r ≡ Ok None → Appended w w' o o' (get_or w (from + i) 0 ∷ [])
            → Converting w₀ w' from n to o' marks' scripts (i + 1)
        converting-stays e a = copied-on here.kept a (round-stays source i inside t.done slash-read here e)

        -- then the round answers an error too
        pub converting-barred : {b : Barred} → r ≡ Err b → (x : Outcome) → IsErr x → Rounded source w₀ w to x
        converting-barred e (Ok n) h = absurd (false≢true h)
        converting-barred e (Err b) h =
            record { out = []; decides = sym (round-barred source i inside t.done slash-read here e t.writing.out) ∙ t.writing.same-as-whole; counted = refl; wrote = wrote-less 0 t.writing.wrote }

        module _ {f : Operands} (e : r ≡ Ok (Some f)) where
          pub ordered : Ordered n i f
          ordered = rw source-length at (slashed-ordered here e)

          pub fraction-ahead : (i < f.den.end) × (f.den.end ≤ n)
          fraction-ahead = let lie = ordered in let a = lie.behind-slash in let b = lie.denominator in (omega arith, lie.within)

          pub converting-fraction :
              {w' : List ℕ} {o' : Writer} {marks'' : Marks}
              → Appended w w' (cut_by (i - f.num.start) o) o' (fraction f (part from n w))
              → ((n : ℕ) (done : Done) → Kept marks' n done → Kept marks'' n (rewritten_to done f.den.end))
              → Converting w₀ w' from n to o' marks'' scripts f.den.end
          converting-fraction {w'} {o'} a kept =
              let done = rewritten_to here.next f.den.end in
              let put = subst (λ s. Appended w w' (cut_by (i - f.num.start) o) o' (fraction f s)) source-same a in
              let less = writing-less t.writing (i - f.num.start) (λ out. round_from source done f.den.end (out ++ fraction f source)) (round-fraction source i inside t.done slash-read here e (slashed-ordered here e)) in
              let ahead = fraction-ahead in let n = put.counted in let few = t.few in let small = fraction-small t.regions t.short ordered in
              record {
                regions = t.regions;
                short = t.short;
                within = ahead.1;
                few = omega arith;
                scriptless = t.scriptless;
                done = done;
                kept = kept (length source) here.next here.kept;
                writing = writing_more less (round_from source done f.den.end) t.regions.region put (λ out. refl);
              }
