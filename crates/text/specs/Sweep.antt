-- The invariant of a loop that sweeps the n symbols at `from`.
--     Sweeping        it stands at place i
--     sweeping-none   it begins; `sweeping-more`: one turn; `sweeping-gap`: what stands before a pattern; `sweeping-all`: it is done
-- Assumes nothing.
use Rattle.std.specs.Prelude.{◌≡◌, refl, List, [], ◌∷◌, ◌++◌, ℕ, ◌+◌, ◌-◌, ◌*◌, ◌<◌, ◌≤◌, length, get_or, take, drop, false}
use Rattle.std.proofs.Common.{sym, ap, ◌∙◌, subst, append_assoc, append-nil, add-zero, arith, length-take, length-drop, drop-drop}
use Rattle.spec.specs.Symbols.{starts}
use Rattle.text_search.specs.Search.{Gap}
use Rattle.spec.specs.Pipeline.{least_work}
use Rattle.spec.specs.Sweep.{Turn, Rule, kept, sweep}
use Rattle.spec.specs.Laws.Symbols.{drop-step}
use Rattle.spec.specs.Laws.Sweep.{Waits, swept, swept-turn, swept-copied, swept-end}
use Rattle.text_symbols.specs.Parts.{part, length_part, get_d_part, rest_part, whole_part, sub_part}
use Rattle.text.specs.declared.writer.Writer.{Writer}
use Rattle.text.specs.Writer.{most_written, Room, Appended, Apart, Regions, apart-part, apart-kept, appended-none, appended-more, appended-long, appended-part}

-- it began with the buffer w₀ and the writer o₀. A turn writes at most `most_written` symbols for each that it takes, so the count stays small
pub record Sweeping (rule : Rule) (w₀ w : List ℕ) (from n : ℕ) (o₀ o : Writer) (i : ℕ) : Type 0 where
  pub regions : Regions w₀ from n o₀
  pub out : List ℕ
  pub appended : Appended w₀ w o₀ o out
  pub long : length w ≡ length w₀
  pub same-as-whole : out ++ swept rule (part from n w₀) i ≡ sweep rule 0 0 (part from n w₀)
  pub bounded : o.count ≤ o₀.count + most_written * i

pub sweeping-none : (rule : Rule) {w : List ℕ} {from n : ℕ} {o : Writer} → Regions w from n o → Sweeping rule w w from n o o 0
unfolding swept
sweeping-none rule {w} {o = o} regions = record { regions = regions; out = []; appended = appended-none w o; long = refl; same-as-whole = refl; bounded = omega arith }

-- the rest of the text, as the code looks at it
abbrev pub rest_from : ℕ → ℕ → ℕ → List ℕ → List ℕ
rest_from from n i w = part (from + i) (from + n - (from + i)) w

module _ {rule : Rule} {w₀ w : List ℕ} {from n : ℕ} {o₀ o : Writer} {i : ℕ} (sweeping : Sweeping rule w₀ w from n o₀ o i) where
  regions : Regions w₀ from n o₀
  regions = sweeping.regions

  pub sweeping-all : n ≤ i → Appended w₀ w o₀ o (sweep rule 0 0 (part from n w₀))
  sweeping-all h =
      let l = length_part from n w₀ regions.source in
      let short : length (part from n w₀) ≤ i = omega arith in
      let e = sym (append-nil sweeping.out) ∙ ap (λ s. sweeping.out ++ s) (sym (swept-end rule (part from n w₀) i short)) ∙ sweeping.same-as-whole in
      subst (λ out. Appended w₀ w o₀ o out) e sweeping.appended

  -- what is read of the text, in a turn: all of it, its rest, and m symbols of it
  pub source-read : part from (from + n - from) w ≡ part from n w₀
  source-read = whole_part from n w ∙ appended-part sweeping.appended from n regions.apart

  pub rest_read : rest_from from n i w ≡ drop i (part from n w₀)
  rest_read = rest_part from n i w ∙ ap (drop i) (appended-part sweeping.appended from n regions.apart)

  pub symbols-read : (j m : ℕ) → j + m ≤ n → part (from + j) m w ≡ take m (drop j (part from n w₀))
  symbols-read j m h = sub_part from n j m w h ∙ ap (λ s. take m (drop j s)) (appended-part sweeping.appended from n regions.apart)

  pub symbols-apart : (j m : ℕ) → j + m ≤ n → Apart (from + j) m o
  symbols-apart j m h = apart-part from n o j m (apart-kept from n sweeping.appended regions.apart) h

  -- the symbols before the pattern that the rule waits for
  module _ {pattern : List ℕ} {k : ℕ} (gap : Gap pattern (rest_from from n i w) k) (within : i ≤ n) where
    pub gap_within : i + k ≤ n
    gap_within =
        let l = ap length rest_read ∙ length-drop i (part from n w₀) in let m = length_part from n w₀ regions.source in let h = gap.within in
        omega arith

    -- what `copy` asks
    pub gap-room : Room w o k × ((from + i + k ≤ length w) × Apart (from + i) k o)
    gap-room =
        let h = gap_within in let l = sweeping.long in let r = regions.region in let s = regions.small in let c = sweeping.bounded in let src = regions.source in
        let p = sweeping.appended.same-place in let q = sweeping.appended.same-cap in
        (record { region = omega arith; small = omega arith }, (omega arith, symbols-apart i k gap_within))

    pub sweeping-gap : {w' : List ℕ} {o' : Writer} → Waits pattern rule → Appended w w' o o' (part (from + i) k w) → Sweeping rule w₀ w' from n o₀ o' (i + k)
    sweeping-gap {w'} {o'} waits a =
        let s = part from n w₀ in
        let l = length_part from n w₀ regions.source in
        let h = gap_within in let c = sweeping.bounded in
        let read : part (from + i) k w ≡ take k (drop i s) = symbols-read i k gap_within in
        let d = a.counted in let t = ap length read in let m = length-take k (drop i s) in
        record {
          regions = regions;
          out = sweeping.out ++ take k (drop i s);
          appended = appended-more sweeping.appended (rw read at a);
          long = appended-long a ∙ sweeping.long;
          same-as-whole = append_assoc sweeping.out (take k (drop i s)) (swept rule s (i + k))
              ∙ ap (λ r. sweeping.out ++ r) (sym (swept-copied rule s i k (omega arith) (λ j less. waits.copies (get_or (0 ∷ s) (i + j) 0) (drop (i + j) s) (free j less)))) ∙ sweeping.same-as-whole;
          bounded = omega arith;
        }
      where
        free : (j : ℕ) → j < k → starts pattern (drop (i + j) (part from n w₀)) ≡ false
        free j less = ap (starts pattern) (sym (ap (drop j) rest_read ∙ drop-drop j i (part from n w₀))) ∙ gap.free j less

  module _ (more : i < n) where
    pub turn-room : (m : ℕ) → m ≤ least_work → Room w o m
    turn-room m h =
        let l = sweeping.long in let r = regions.region in let s = regions.small in let c = sweeping.bounded in
        let p = sweeping.appended.same-place in let q = sweeping.appended.same-cap in
        record { region = omega arith; small = omega arith }

    -- what `copy_one` asks, to copy the symbol at place i
    pub one-room : Room w o 1 × (from + i < length w)
    one-room = let l = sweeping.long in let s = regions.source in (turn-room 1 (omega arith), omega arith)

    -- the turn at place i has been written
    pub sweeping-more :
        {w' : List ℕ} {o' : Writer} (t : Turn) → rule (get_or (0 ∷ part from n w₀) i 0) (drop i (part from n w₀)) ≡ t
        → Appended w w' o o' t.fresh → length t.fresh ≤ most_written * (1 + t.more)
        → Sweeping rule w₀ w' from n o₀ o' (i + 1 + t.more)
    sweeping-more t e a few =
        let s = part from n w₀ in
        let l = length_part from n w₀ regions.source in
        let c = sweeping.bounded in let d = a.counted in
        let step = swept-turn rule s i (omega arith) e in
        record {
          regions = regions;
          out = sweeping.out ++ t.fresh;
          appended = appended-more sweeping.appended a;
          long = appended-long a ∙ sweeping.long;
          same-as-whole = append_assoc sweeping.out t.fresh (swept rule s (i + 1 + t.more)) ∙ ap (λ r. sweeping.out ++ r) (sym step) ∙ sweeping.same-as-whole;
          bounded = omega arith;
        }

    -- the symbol at place i has been copied
    pub sweeping-kept :
        {w' : List ℕ} {o' : Writer} → rule (get_or (0 ∷ part from n w₀) i 0) (drop i (part from n w₀)) ≡ kept (drop i (part from n w₀))
        → Appended w w' o o' (get_or w (from + i) 0 ∷ [])
        → Sweeping rule w₀ w' from n o₀ o' (i + 1)
    sweeping-kept {w'} {o'} e a =
        let one : get_or w (from + i) 0 ∷ [] ≡ take 1 (drop i (part from n w₀)) = symbol-read in
        let l = length-take 1 (drop i (part from n w₀)) in
        subst (λ j. Sweeping rule w₀ w' from n o₀ o' j) (add-zero (i + 1))
        (sweeping-more (kept (drop i (part from n w₀))) e (rw one at a) (omega arith))
      where
        symbol-read : get_or w (from + i) 0 ∷ [] ≡ take 1 (drop i (part from n w₀))
        symbol-read =
            let l = length_part from n w₀ regions.source in
            let same = appended-part sweeping.appended from n regions.apart in
            ap (λ x. x ∷ []) (sym (get_d_part from n w i more) ∙ ap (λ s. get_or s i 0) same)
            ∙ ap (take 1) (sym (drop-step (part from n w₀) i (omega arith)))
