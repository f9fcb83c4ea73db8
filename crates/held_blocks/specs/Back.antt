-- The loop of `put_back`: each mark of a kind gives way to the next block of that kind. Assumes nothing.
--     stored_at      block k, by its place
--     stored_from    m blocks, from block k on
--     Back          what `put_back` asks
--     Returning     the invariant of its loop, at place i
use Rattle.std.specs.Prelude.{◌≡◌, refl, ℕ, zero, suc, ◌+◌, ◌*◌, ◌<◌, ◌≤◌, drop}
use Rattle.std.proofs.Math.Path.{sym, ap}
use Rattle.std.proofs.Common.{ap₂, ◌∙◌, inl, inr, ⊎_elim, add-zero, add-suc, suc-add, not-suc-le-zero, drop-cons}
use mathlib.Core.List.{List, [], ◌∷◌, ◌++◌, append_assoc, append-nil}
use Rattle.std.proofs.Math.Numerals.{add-one}
use native.Mathlib.Omega.{arith}
use Rattle.std.proofs.Math.ListN.{length, get_or, length-take, drop_of_length-le}
use borrow.Author.Tests.{eq-eqb, ne_eqb}
use Rattle.spec.specs.Result.{most_symbols}
use Rattle.spec.specs.Pipeline.{least_work}
use Rattle.text_search.specs.Half.{half_work}
use Rattle.spec.specs.Held.{filled}
use Rattle.text_symbols.specs.Parts.{part, length_part, get_d_part}
use Rattle.text.specs.Writer.{Appended, Apart, appended-none, appended-more, appended-part, puts-outside}
use Rattle.held_laws.specs.Marks.{count, block_at}
use Rattle.held_laws.specs.InFull.{returned, filled-returned}
use Rattle.held_blocks.specs.Filing.{text_from, blocks_at, blocks_room, places_at, places_room}

-- a number of two bytes
abbrev pub number_at : List ℕ → ℕ → ℕ
number_at w at = get_or w at 0 * 256 + get_or w (at + 1) 0

abbrev pub start_at : List ℕ → ℕ → ℕ
start_at w k = number_at w (places_at + 4 * k)

abbrev pub long_at : List ℕ → ℕ → ℕ
long_at w k = number_at w (places_at + 4 * k + 2)

abbrev pub stored_at : List ℕ → ℕ → List ℕ
stored_at w k = part (blocks_at + start_at w k) (long_at w k) w

unfoldable pub stored_from : List ℕ → ℕ → ℕ → List (List ℕ)
stored_from w k zero = []
stored_from w k (suc m) = stored_at w k ∷ stored_from w (suc k) m

-- block k stands in the regions of blocks and places
pub record Filed (w : List ℕ) (k : ℕ) : Type 0 where
  pub entry : 4 * k + 4 ≤ places_room
  pub inside : start_at w k + long_at w k ≤ blocks_room

pub record Back (w : List ℕ) (from n to mark first : ℕ) : Type 0 where
  pub long : least_work ≤ length w
  pub source : from + n ≤ blocks_at
  pub region : to + most_symbols ≤ blocks_at
  pub apart : Apart from n (text_from to 0)
  pub short : n ≤ most_symbols
  pub few : first ≤ most_symbols
  pub filed : (k : ℕ) → k < first + count mark (part from n w) → Filed w k

-- ---- blocks by list
stored-long : (w : List ℕ) (m k : ℕ) → length (stored_from w k m) ≡ m
unfolding stored_from
stored-long w zero k = refl
stored-long w (suc m) k = ap suc (stored-long w m (suc k))

stored-block : (w : List ℕ) (m k i : ℕ) → i < m → stored_at w (k + i) ≡ block_at (stored_from w k m) i
unfolding stored_from block_at
stored-block w zero k i h = absurd (not-suc-le-zero h)
stored-block w (suc m) k zero h = ap (stored_at w) (add-zero k)
stored-block w (suc m) k (suc i) h = ap (stored_at w) (add-suc k i ∙ sym (suc-add k i)) ∙ stored-block w m (suc k) i (omega arith)

stored-filled : (w : List ℕ) (mark first : ℕ) (s : List ℕ) → filled mark (stored_from w first (count mark s)) s ≡ returned mark (stored_at w) first s
stored-filled w mark first s =
    let l = stored-long w (count mark s) first in
    filled-returned mark (stored_at w) s (stored_from w first (count mark s)) first (omega arith) (λ i h. stored-block w (count mark s) first i (omega arith))

-- ---- what is read of a block after an append to a text region
module _ {w w' : List ℕ} {to n n' : ℕ} {bs : List ℕ} (region : to + most_symbols ≤ blocks_at) (a : Appended w w' (text_from to n) (text_from to n') bs) where
  -- a byte behind both text regions
  byte-kept : (at : ℕ) → blocks_at ≤ at → get_or w' at 0 ≡ get_or w at 0
  byte-kept at h = ap (λ v. get_or v at 0) a.work ∙ puts-outside bs w to most_symbols n at (inr (omega arith))

  number-kept : (at : ℕ) → blocks_at ≤ at → number_at w' at ≡ number_at w at
  number-kept at h = ap₂ (λ x y. x * 256 + y) (byte-kept at h) (byte-kept (at + 1) (omega arith))

  start-kept : (k : ℕ) → start_at w' k ≡ start_at w k
  start-kept k = number-kept (places_at + 4 * k) (omega arith)

  long_kept : (k : ℕ) → long_at w' k ≡ long_at w k
  long_kept k = number-kept (places_at + 4 * k + 2) (omega arith)

  pub stored-kept : (k : ℕ) → stored_at w' k ≡ stored_at w k
  stored-kept k = ap₂ (λ x y. part (blocks_at + x) y w') (start-kept k) (long_kept k) ∙ appended-part a (blocks_at + start_at w k) (long_at w k) (inr (omega arith))

  pub filed-kept : (k : ℕ) → Filed w k → Filed w' k
  filed-kept k f = record { entry = f.entry; inside = rw (start-kept k, long_kept k) f.inside }

-- ---- the loop
pub record Returning (mark first : ℕ) (w₀ w : List ℕ) (from n to len k i : ℕ) : Type 0 where
  pub out : List ℕ
  pub appended : Appended w₀ w (text_from to 0) (text_from to len) out
  pub same-as-whole : out ++ returned mark (stored_at w₀) k (drop i (part from n w₀)) ≡ returned mark (stored_at w₀) first (part from n w₀)
  pub left : k + count mark (drop i (part from n w₀)) ≡ first + count mark (part from n w₀)
  pub len-bounded : len ≤ half_work * i
  pub k-bounded : k ≤ first + i

pub returning-none : (mark first : ℕ) (w : List ℕ) (from n to : ℕ) → Returning mark first w w from n to 0 first 0
returning-none mark first w from n to =
    record { out = []; appended = appended-none w (text_from to 0); same-as-whole = refl; left = refl; len-bounded = omega arith; k-bounded = omega arith }

module _
    {mark first : ℕ} {w₀ w : List ℕ} {from n to len k i : ℕ}
    (back : Back w₀ from n to mark first) (r : Returning mark first w₀ w from n to len k i)
  where
    source-long : length (part from n w₀) ≡ n
    source-long = let l = back.long in let s = back.source in length_part from n w₀ (omega arith)

    pub returning-all : n ≤ i → Appended w₀ w (text_from to 0) (text_from to len) (filled mark (stored_from w₀ first (count mark (part from n w₀))) (part from n w₀))
    unfolding returned
    returning-all l =
        let e = source-long in
        let short : length (part from n w₀) ≤ i = omega arith in
        let d = drop_of_length-le (part from n w₀) short in
        let t = sym (append-nil r.out) ∙ ap (λ s. r.out ++ returned mark (stored_at w₀) k s) (sym d) ∙ r.same-as-whole in
        rw (stored-filled w₀ mark first (part from n w₀), ← t) r.appended

    module _ (more : i < n) where
      here : drop i (part from n w₀) ≡ get_or w (from + i) 0 ∷ drop (i + 1) (part from n w₀)
      here =
          let l = source-long in
          let inside : i < length (part from n w₀) = omega arith in
          drop-cons (part from n w₀) i 0 inside
          ∙ ap₂ (λ b m. b ∷ drop m (part from n w₀)) (sym (byte ∙ sym (get_d_part from n w₀ i more))) (sym (add-one i))
        where
          byte : get_or w (from + i) 0 ≡ get_or w₀ (from + i) 0
          byte =
              ap (λ v. get_or v (from + i) 0) r.appended.work
              ∙ puts-outside r.out w₀ to most_symbols 0 (from + i) (⊎_elim (λ l. inl (omega arith)) (λ l. inr (omega arith)) back.apart)

      pub returning-other :
          {w' : List ℕ} {len' : ℕ} → (get_or w (from + i) 0 ≡ mark → ⊥) → Appended w w' (text_from to len) (text_from to len') (get_or w (from + i) 0 ∷ [])
          → Returning mark first w₀ w' from n to len' k (i + 1)
      unfolding returned count
      returning-other other a =
          let b = get_or w (from + i) 0 in
          let t = ne_eqb b mark other in
          let x = r.len-bounded in let y = r.k-bounded in let c = a.counted in
          record {
            out = r.out ++ (b ∷ []);
            appended = appended-more r.appended a;
            same-as-whole = append_assoc r.out (b ∷ []) _ ∙ sym (ap (λ s. r.out ++ returned mark (stored_at w₀) k s) here ∙ (rw t)) ∙ r.same-as-whole;
            left = sym (ap (λ s. k + count mark s) here ∙ (rw t)) ∙ r.left;
            len-bounded = omega arith;
            k-bounded = omega arith;
          }

      module _ (met : get_or w (from + i) 0 ≡ mark) where
        next_marks : count mark (drop i (part from n w₀)) ≡ suc (count mark (drop (i + 1) (part from n w₀)))
        unfolding count
        next_marks = ap (count mark) here ∙ (rw (eq-eqb (get_or w (from + i) 0) mark met))

        filed-here : Filed w₀ k
        filed-here = let a = next_marks in let l = r.left in back.filed k (omega arith)

        pub filed-now : Filed w k
        filed-now = filed-kept back.region r.appended k filed-here

        pub returning-mark :
            {w' : List ℕ} {len' : ℕ} → Appended w w' (text_from to len) (text_from to len') (stored_at w k)
            → Returning mark first w₀ w' from n to len' (k + 1) (i + 1)
        unfolding returned count
        returning-mark a =
            let t = eq-eqb (get_or w (from + i) 0) mark met in
            let same = stored-kept back.region r.appended k in
            let b = stored_at w₀ k in
            let x = r.len-bounded in let y = r.k-bounded in let c = a.counted in
            let l = ap length same in
            let m = length-take (long_at w₀ k) (drop (blocks_at + start_at w₀ k) w₀) in
            let f = filed-here.inside in
            let a₁ = next_marks in let a₂ = r.left in
            record {
              out = r.out ++ b;
              appended = appended-more r.appended (rw same at a);
              same-as-whole =
                  append_assoc r.out b _
                  ∙ sym (ap (λ s. r.out ++ returned mark (stored_at w₀) k s) here ∙ (rw (t, add-one k)))
                  ∙ r.same-as-whole;
              left = omega arith;
              len-bounded = omega arith;
              k-bounded = omega arith;
            }
