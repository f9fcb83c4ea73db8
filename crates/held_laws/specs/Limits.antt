-- How much room the blocks of a text take, and that held blocks in full are the text again. Assumes nothing.
--     texts-few, both-few        blocks of a text of 8,192 symbols take at most 9,362 bytes and 4,680 bytes of places
--     hold-texts-full, hold-both-full    what was held out, with its blocks in full, is the text
use Rattle.std.specs.Prelude.{◌≡◌, Bool, ℕ, suc, ◌+◌, ◌*◌, ◌≤◌, drop}
use Rattle.std.proofs.Math.Path.{refl, sym, ap, ap₂}
use Rattle.std.proofs.Common.{◌∙◌, eq-eqb}
use Rattle.std.proofs.Math.Bool.{true, false, cond}
use mathlib.Core.List.{List, [], ◌∷◌, ◌++◌}
use Rattle.std.proofs.Math.Option.{some}
use Prim.Native.Char.{code}
use native.Mathlib.Omega.{arith}
use Rattle.std.proofs.Math.Dec.{eqb}
use Rattle.std.proofs.Math.ListN.{length, take, length-append, length-drop, take-append-drop}
use Rattle.std.proofs.Math.Seq.{take-append-le, take-append_seam}
use Rattle.spec.specs.Result.{most_symbols}
use Rattle.spec.specs.Symbols.{bytes, starts, text_mark, roman_mark}
use Rattle.spec.specs.Laws.Symbols.{starts-long, starts-split}
use Rattle.spec.specs.Closing.{find_matching_brace}
use Rattle.spec.specs.Held.{Taken, hold_texts, hold_both, filled, in_full}
use Rattle.spec.specs.Laws.Held.{filled_none}
use Rattle.held_laws.specs.Marks.{has_mark, count, concat, not-both}
use Rattle.held_laws.specs.WellMade.{symbols-of, count-append, concat-append, unmarked-count}
use Rattle.held_laws.specs.TakeOut.{close-suffix, Turns, ended, unclosed, passing, holding}
use Rattle.held_laws.specs.Holding.{taken-other, taken_own, blocks-count-within, texts_taken, text_turns, romans_taken, roman_turns, roman-left, hold-texts-made, hold-both-made}
use Rattle.held_laws.specs.InFull.{in-full-order}

-- ---- counts and lengths
count_most : (c : ℕ) (s : List ℕ) → count c s ≤ length s
unfolding count
count_most c [] = omega arith
count_most c (x ∷ s) = go (eqb x c) (count_most c s)
  where
    go : (t : Bool) → count c s ≤ length s → cond t (suc (count c s)) (count c s) ≤ suc (length s)
    go true e = omega arith
    go false e = omega arith

count-both : (s : List ℕ) → count text_mark s + count roman_mark s ≤ length s
unfolding count
count-both [] = omega arith
count-both (x ∷ s) = go (eqb x text_mark) refl (eqb x roman_mark) refl (count-both s)
  where
    go : (t : Bool) → eqb x text_mark ≡ t → (r : Bool) → eqb x roman_mark ≡ r → count text_mark s + count roman_mark s ≤ length s
        → cond t (suc (count text_mark s)) (count text_mark s) + cond r (suc (count roman_mark s)) (count roman_mark s) ≤ suc (length s)
    go true p true q e = not-both x p q
    go true p false q e = omega arith
    go false p true q e = omega arith
    go false p false q e = omega arith

module _ (name : List ℕ) (mark : ℕ) where
  pub taken-length : {s : List ℕ} {t : Taken} → Turns name mark s t → length t.left + length (concat t.blocks) ≡ length s + length t.blocks
  unfolding concat
  taken-length ended = refl
  taken-length (unclosed s e f) = refl
  taken-length (passing x s t e next) = let more = taken-length next in omega arith
  taken-length (holding x block behind t e f next) =
      let more = taken-length next in
      let l = length-append block behind in
      let m = length-append block (concat t.blocks) in
      omega arith

  -- a block has its name and its closing brace
  block-long : (x : ℕ) (block behind : List ℕ) → starts name (x ∷ (block ++ behind)) ≡ true → find_matching_brace (drop (length name) (x ∷ (block ++ behind))) ≡ some behind
      → length name ≤ length block
  block-long x block behind e f =
      let b = close-suffix (code "{") (code "}") (drop (length name) (x ∷ (block ++ behind))) 0 behind f in
      let l = ap length b.split in
      let d = length-drop (length name) (x ∷ (block ++ behind)) in
      let m = length-append block behind in
      let k = length-append b.front behind in
      let n = starts-long name (x ∷ (block ++ behind)) e in
      omega arith

  pub taken-long : 6 ≤ length name → {s : List ℕ} {t : Taken} → Turns name mark s t → 7 * length t.blocks ≤ length (concat t.blocks)
  unfolding concat
  taken-long six ended = omega arith
  taken-long six (unclosed s e f) = omega arith
  taken-long six (passing x s t e next) = taken-long six next
  taken-long six (holding x block behind t e f next) =
      let more = taken-long six next in
      let l = block-long x block behind e f in
      let m = length-append block (concat t.blocks) in
      omega arith

  -- the name holds none of a block's marks
  taken-marks : (c : ℕ) → count c name ≡ 0 → 7 ≤ length name → {s : List ℕ} {t : Taken} → Turns name mark s t
      → count c (concat t.blocks) + 7 * length t.blocks ≤ length (concat t.blocks)
  unfolding concat count
  taken-marks c none seven ended = omega arith
  taken-marks c none seven (unclosed s e f) = omega arith
  taken-marks c none seven (passing x s t e next) = taken-marks c none seven next
  taken-marks c none seven (holding x block behind t e f next) =
      let more = taken-marks c none seven next in
      let l = block-long x block behind e f in
      let m = length-append (x ∷ block) (concat t.blocks) in
      let k = count-append c (x ∷ block) (concat t.blocks) in
      let long = length name in
      let front : name ≡ take (length name) (x ∷ block) =
      sym (take-append_seam name (drop (length name) (x ∷ (block ++ behind))))
      ∙ ap (take (length name)) (sym (starts-split name (x ∷ (block ++ behind)) e))
      ∙ take-append-le (length name) (x ∷ block) behind (omega arith) in
      let split = take-append-drop (length name) (x ∷ block) in
      let a = count-append c (take (length name) (x ∷ block)) (drop (length name) (x ∷ block)) in
      let b = ap (count c) split in
      let z = ap (count c) front in
      let most = count_most c (drop (length name) (x ∷ block)) in
      let d = length-drop (length name) (x ∷ block) in
      omega arith

  -- the blocks at their marks are the text
  taken-filled : {s : List ℕ} {t : Taken} → count mark s ≡ 0 → Turns name mark s t → filled mark t.blocks t.left ≡ s
  unfolding filled count
  taken-filled none ended = refl
  taken-filled none (unclosed s e f) = filled_none mark s
  taken-filled none (passing x s t e next) = go (eqb x mark) refl none t.blocks refl (λ none. taken-filled none next)
    where
      go : (u : Bool) → eqb x mark ≡ u → cond u (suc (count mark s)) (count mark s) ≡ 0 → (bs : List (List ℕ)) → t.blocks ≡ bs
          → (count mark s ≡ 0 → filled mark t.blocks t.left ≡ s) → filled mark t.blocks (x ∷ t.left) ≡ x ∷ s
      go true p none bs q more = absurd (omega arith)
      go false p none [] q more =
          ap (λ l. filled mark l (x ∷ t.left)) q
          ∙ ap (λ l. x ∷ l) (sym (filled_none mark t.left) ∙ ap (λ l. filled mark l t.left) (sym q) ∙ more none)
      go false p none (b ∷ bs) q more =
          ap (λ l. filled mark l (x ∷ t.left)) q
          ∙ ap (λ u. elim u as (λ _. List ℕ) [ true ↦ b ++ filled mark bs t.left | false ↦ x ∷ filled mark (b ∷ bs) t.left ]) p
          ∙ ap (λ l. x ∷ l) (ap (λ l. filled mark l t.left) (sym q) ∙ more none)
  taken-filled none (holding x block behind t e f next) =
      let l = count-append mark (x ∷ block) behind in
      ap (λ u. elim u as (λ _. List ℕ) [ true ↦ (x ∷ block) ++ filled mark t.blocks t.left | false ↦ mark ∷ filled mark ((x ∷ block) ∷ t.blocks) t.left ]) (eq-eqb mark mark refl)
      ∙ ap (λ l. (x ∷ block) ++ l) (taken-filled (omega arith) next)

-- ---- both hold-outs
module _ (s : List ℕ) (free : has_mark s ≡ false) where
  pub hold-texts-full : in_full (hold_texts s) ≡ s
  unfolding hold_texts
  hold-texts-full =
      in-full-order (hold-texts-made s free)
      ∙ ap₂ (filled text_mark) (symbols-of [] (texts_taken s).blocks) (filled_none roman_mark (texts_taken s).left)
      ∙ taken-filled (bytes "\\text{") text_mark (unmarked-count s free).0 (text_turns s)

  pub hold-both-full : in_full (hold_both s) ≡ s
  unfolding hold_both
  hold-both-full =
      in-full-order (hold-both-made s free)
      ∙ ap₂ (filled text_mark) (symbols-of _ (texts_taken s).blocks) (taken-filled (bytes "\\mathrm{") roman_mark (roman-left s free) (roman_turns s))
      ∙ taken-filled (bytes "\\text{") text_mark (unmarked-count s free).0 (text_turns s)

  module _ (short : length s ≤ most_symbols) where
    pub texts-few : (length (concat (texts_taken s).blocks) ≤ most_symbols) × (4 * length (texts_taken s).blocks ≤ 4680)
    texts-few =
        let l = taken-length (bytes "\\text{") text_mark (text_turns s) in
        let m = taken-long (bytes "\\text{") text_mark (omega arith) (text_turns s) in
        let own = taken_own (bytes "\\text{") text_mark (text_turns s) in
        let none = (unmarked-count s free).0 in
        let within = blocks-count-within (bytes "\\text{") text_mark text_mark (text_turns s) in
        let most = count_most text_mark (texts_taken s).left in
        (omega arith, omega arith)

    -- a text with marks is no longer than the text
    pub texts-short : length (hold_texts s).text ≤ most_symbols
    unfolding hold_texts
    texts-short =
        let l = taken-length (bytes "\\text{") text_mark (text_turns s) in
        let m = taken-long (bytes "\\text{") text_mark (omega arith) (text_turns s) in
        omega arith

    pub both-short : length (hold_both s).text ≤ most_symbols
    unfolding hold_both
    both-short =
        let l = taken-length (bytes "\\text{") text_mark (text_turns s) in
        let m = taken-long (bytes "\\text{") text_mark (omega arith) (text_turns s) in
        let l' = taken-length (bytes "\\mathrm{") roman_mark (roman_turns s) in
        let m' = taken-long (bytes "\\mathrm{") roman_mark (omega arith) (roman_turns s) in
        omega arith

    pub both-few : (length (concat ((texts_taken s).blocks ++ (romans_taken s).blocks)) ≤ 9362) × (4 * length ((texts_taken s).blocks ++ (romans_taken s).blocks) ≤ 4680)
    unfolding count
    both-few =
        let l = taken-length (bytes "\\text{") text_mark (text_turns s) in
        let m = taken-long (bytes "\\text{") text_mark (omega arith) (text_turns s) in
        let own = taken_own (bytes "\\text{") text_mark (text_turns s) in
        let none = (unmarked-count s free).0 in
        let within = blocks-count-within (bytes "\\text{") text_mark text_mark (text_turns s) in
        let l' = taken-length (bytes "\\mathrm{") roman_mark (roman_turns s) in
        let m' = taken-marks (bytes "\\mathrm{") roman_mark text_mark refl (omega arith) (roman_turns s) in
        let own' = taken_own (bytes "\\mathrm{") roman_mark (roman_turns s) in
        let none' = roman-left s free in
        let within' = blocks-count-within (bytes "\\mathrm{") roman_mark roman_mark (roman_turns s) in
        let other = taken-other (bytes "\\mathrm{") roman_mark text_mark refl (roman_turns s) in
        let kinds = count-both (romans_taken s).left in
        let j = ap length (concat-append (texts_taken s).blocks (romans_taken s).blocks) in
        let j' = length-append (concat (texts_taken s).blocks) (concat (romans_taken s).blocks) in
        let k = length-append (texts_taken s).blocks (romans_taken s).blocks in
        (omega arith, omega arith)
