-- The turns of the loop that applies an entry: the code has looked at a place, and what it then wrote is what the rule says. Assumes nothing.
use Rattle.std.specs.Prelude.{◌≡◌, Bool, true, false, cond, List, [], ◌∷◌, ℕ, pred, ◌+◌, ◌-◌, ◌*◌, ◌≤◌, ◌<◌, length, get_or, drop}
use Rattle.std.proofs.Common.{sym, ap, ◌∙◌, subst, arith, length-drop}
use Rattle.spec.specs.Sweep.{kept, taken}
use Rattle.spec.specs.Symbols.{starts}
use Rattle.spec.specs.Laws.Symbols.{starts-long}
use Rattle.spec.specs.Laws.Booleans.{and_left}
use Rattle.text_symbols.specs.Parts.{part, length_part}
use Rattle.text.specs.declared.writer.Writer.{Writer}
use Rattle.text.specs.Writer.{most_written, Appended}
use Rattle.text.specs.Sweep.{Sweeping, source-read, sweeping-more, sweeping-kept}
use Rattle.name_entry.specs.declared.bounds.Bounds.{Bounds}
use Rattle.name_entry.specs.Bounded.{EntryTextsFit, stands, spares, bounded}

written-few : {pattern fresh : List ℕ} (t : Bool) → EntryTextsFit pattern fresh → length (cond t pattern fresh) ≤ most_written * (1 + pred (length pattern))
written-few true fair = let h = fair.positive in let s = fair.short in omega arith
written-few false fair = let h = fair.few in omega arith

-- a turn of the loop: whether the pattern stands at place i has been asked of the text, as the code reads it
module _
    (b : Bounds) (pattern fresh : List ℕ) {w₀ w : List ℕ} {from n : ℕ} {o₀ o : Writer} {i : ℕ}
    (sweeping : Sweeping (bounded b pattern fresh) w₀ w from n o₀ o i) (more : i < n)
    {met : Bool} (test : met ≡ stands b pattern (get_or (0 ∷ part from (from + n - from) w) i 0) (drop i (part from (from + n - from) w)))
  where
    abbrev before : ℕ
    before = get_or (0 ∷ part from n w₀) i 0

    abbrev here : List ℕ
    here = drop i (part from n w₀)

    stands_here : stands b pattern before here ≡ met
    stands_here = ap (λ t. stands b pattern (get_or (0 ∷ t) i 0) (drop i t)) (sym (source-read sweeping)) ∙ sym test

    turn-here : bounded b pattern fresh before here ≡ cond met (taken (length pattern) (cond (spares b pattern before here) pattern fresh)) (kept here)
    turn-here = ap (λ t. cond t (taken (length pattern) (cond (spares b pattern before here) pattern fresh)) (kept here)) stands_here

    pub copied-here :
        {w' : List ℕ} {o' : Writer} → met ≡ false → Appended w w' o o' (get_or w (from + i) 0 ∷ [])
        → Sweeping (bounded b pattern fresh) w₀ w' from n o₀ o' (i + 1)
    copied-here other a = sweeping-kept sweeping more (rw other at turn-here) a

    module _ (fair : EntryTextsFit pattern fresh) (stood : met ≡ true) where
      -- the pattern lies within the text
      pub taken-within : i + length pattern ≤ n
      taken-within =
          let l = starts-long pattern here (and_left (starts pattern here) _ (stands_here ∙ stood)) in
          let d = length-drop i (part from n w₀) in
          let p = length_part from n w₀ sweeping.regions.source in
          omega arith

      pub written-here :
          {w' : List ℕ} {o' : Writer} {spared : Bool} → spared ≡ spares b pattern (get_or (0 ∷ part from (from + n - from) w) i 0) (drop i (part from (from + n - from) w))
          → Appended w w' o o' (cond spared pattern fresh)
          → Sweeping (bounded b pattern fresh) w₀ w' from n o₀ o' (i + length pattern)
      written-here {w'} {o'} {spared} e a =
          let h = fair.positive in
          let next : i + 1 + pred (length pattern) ≡ i + length pattern = omega arith in
          let spares-here : spares b pattern before here ≡ spared = ap (λ t. spares b pattern (get_or (0 ∷ t) i 0) (drop i t)) (sym (source-read sweeping)) ∙ sym e in
          subst (λ j. Sweeping (bounded b pattern fresh) w₀ w' from n o₀ o' j) next
          (sweeping-more sweeping more (taken (length pattern) (cond spared pattern fresh))
          ((rw stood at turn-here) ∙ ap (λ t. taken (length pattern) (cond t pattern fresh)) spares-here)
          a (written-few spared fair))
