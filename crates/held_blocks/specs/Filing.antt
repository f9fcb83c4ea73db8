-- Blocks in the lent buffer: they stand one behind the other in a region of their own, and their places in another. Assumes nothing.
--     blocks_at, places_at   where the two regions begin
--     place                start and length of a block, two bytes each
--     files                the places of blocks that stand one behind the other
--     HeldOut              what has been written to the three regions: the buffer is that of three appends
use Rattle.std.specs.Prelude.{◌≡◌, Bool, ◌⊎◌, ℕ, suc, ◌+◌, ◌/◌, ◌%◌, ◌≤◌, length, set}
use Rattle.std.proofs.Math.Path.{refl, ap}
use Rattle.std.proofs.Common.{sym, ◌∙◌, ap₂, subst, subst₂, inr, add-zero, arith, length-append}
use Rattle.std.proofs.Math.Bool.{true, false, cond}
use Rattle.std.proofs.Math.Logic.{⊎_elim}
use mathlib.Core.List.{List, [], ◌∷◌, ◌++◌, append_assoc, append-nil}
use Rattle.std.proofs.Math.Dec.{ltb}
use borrow.Author.Tests.{ltb-true}
use Rattle.std.proofs.Math.Seq.{set_comm}
use Rattle.spec.specs.Result.{most_symbols}
use Rattle.text_symbols.specs.Parts.{part}
use Rattle.text.specs.declared.writer.Writer.{Writer}
use Rattle.text.specs.Writer.{stored, puts, Appended, Apart, appended-none, appended-more}
use Rattle.held_laws.specs.Marks.{concat}

-- behind the two regions of 8,192 that texts lie in
abbrev pub blocks_at : ℕ
blocks_at = 16384

abbrev pub blocks_room : ℕ
blocks_room = 11264

abbrev pub places_at : ℕ
places_at = 27648

abbrev pub places_room : ℕ
places_room = 5120

-- the writers of the three regions, behind so many symbols
abbrev pub text_from : ℕ → ℕ → Writer
text_from to len = record { to = to; cap = most_symbols; count = len }

abbrev pub blocks_from : ℕ → Writer
blocks_from used = record { to = blocks_at; cap = blocks_room; count = used }

abbrev pub places_from : ℕ → Writer
places_from filed = record { to = places_at; cap = places_room; count = filed }

-- after an append a writer differs by its count alone
pub appended-writer : {w w' : List ℕ} {o o' : Writer} {bs : List ℕ} → Appended w w' o o' bs → o' ≡ record { to = o.to; cap = o.cap; count = o'.count }
appended-writer {o' = o'} a = ap₂ (λ t c. record { to = t; cap = c; count = o'.count }) a.same-place a.same-cap

-- the writer of a text stays that of its region
pub text-appended : {w w' : List ℕ} {o o' : Writer} {to : ℕ} {bs : List ℕ} → o ≡ text_from to o.count → Appended w w' o o' bs
    → (o' ≡ text_from to o'.count) × Appended w w' (text_from to o.count) (text_from to o'.count) bs
text-appended {w} {w'} {o' = o'} {bs = bs} e a =
    let same = appended-writer a ∙ ap₂ (λ t c. record { to = t; cap = c; count = o'.count }) (ap (λ k. k.to) e) (ap (λ k. k.cap) e) in
    (same, subst₂ (λ p q. Appended w w' p q bs) e same a)

pub appended-counted : {w w' : List ℕ} {o o' : Writer} {bs : List ℕ} → Appended w w' o o' bs → Appended w w' o (record { to = o.to; cap = o.cap; count = o'.count }) bs
appended-counted {w} {w'} {o} {bs = bs} a = subst (λ p. Appended w w' o p bs) (appended-writer a) a

-- ---- two appends to regions that lie apart can change places
module _ (to cap to' cap' : ℕ) (apart : (to + cap ≤ to') ⊎ (to' + cap' ≤ to)) where
  stored-swap : (w : List ℕ) (count b count' b' : ℕ) → stored (stored w to cap count b) to' cap' count' b' ≡ stored (stored w to' cap' count' b') to cap count b
  unfolding stored
  stored-swap w count b count' b' = go (ltb count cap) refl (ltb count' cap') refl
    where
      go : (t : Bool) → ltb count cap ≡ t → (u : Bool) → ltb count' cap' ≡ u
          → cond u (set (cond t (set w (to + count) b) w) (to' + count') b') (cond t (set w (to + count) b) w)
          ≡ cond t (set (cond u (set w (to' + count') b') w) (to + count) b) (cond u (set w (to' + count') b') w)
      go true e true e' =
          let l = ltb-true count cap e in let l' = ltb-true count' cap' e' in
          set_comm w (to + count) (to' + count') b b' (λ q. ⊎_elim (λ h. omega arith) (λ h. omega arith) apart)
      go true e false e' = refl
      go false e true e' = refl
      go false e false e' = refl

  stored-puts : (bs w : List ℕ) (count b count' : ℕ) → puts (stored w to cap count b) to' cap' count' bs ≡ stored (puts w to' cap' count' bs) to cap count b
  unfolding puts
  stored-puts [] w count b count' = refl
  stored-puts (c ∷ bs) w count b count' =
      ap (λ v. puts v to' cap' (suc count') bs) (stored-swap w count b count' c) ∙ stored-puts bs (stored w to' cap' count' c) count b (suc count')

  puts-swap : (xs bs w : List ℕ) (count count' : ℕ) → puts (puts w to cap count xs) to' cap' count' bs ≡ puts (puts w to' cap' count' bs) to cap count xs
  unfolding puts
  puts-swap [] bs w count count' = refl
  puts-swap (a ∷ xs) bs w count count' =
      puts-swap xs bs (stored w to cap count a) (suc count) count' ∙ ap (λ v. puts v to cap (suc count) xs) (stored-puts bs w count a count')

-- the second append, made first
module _ (o p : Writer) (apart : Apart o.to o.cap p) {w w' w'' : List ℕ} {o' p' : Writer} {xs bs : List ℕ} (a : Appended w w' o o' xs) (b : Appended w' w'' p p' bs) where
  first-second : Appended w (puts w p.to p.cap p.count bs) p p' bs
  first-second = record { same-place = b.same-place; same-cap = b.same-cap; counted = b.counted; work = refl }

  second-first : Appended (puts w p.to p.cap p.count bs) w'' o o' xs
  second-first =
      record {
        same-place = a.same-place;
        same-cap = a.same-cap;
        counted = a.counted;
        work = b.work ∙ ap (λ v. puts v p.to p.cap p.count bs) a.work ∙ puts-swap o.to o.cap p.to p.cap apart xs bs w o.count p.count;
      }

-- ---- what stands in the regions of blocks and places
abbrev pub pair : ℕ → List ℕ
pair n = n / 256 ∷ n % 256 ∷ []

abbrev pub place : ℕ → ℕ → List ℕ
place start long = pair start ++ pair long

unfoldable pub files : ℕ → List (List ℕ) → List ℕ
files start [] = []
files start (b ∷ bs) = place start (length b) ++ files (start + length b) bs

joined-more : (bs : List (List ℕ)) (b : List ℕ) → concat (bs ++ (b ∷ [])) ≡ concat bs ++ b
unfolding concat
joined-more [] b = append-nil b
joined-more (c ∷ bs) b = ap (λ l. c ++ l) (joined-more bs b) ∙ sym (append_assoc c (concat bs) b)

files-more : (bs : List (List ℕ)) (b : List ℕ) (start : ℕ) → files start (bs ++ (b ∷ [])) ≡ files start bs ++ place (start + length (concat bs)) (length b)
unfolding files concat
files-more [] b start = rw (add-zero start)
files-more (c ∷ bs) b start =
    let e : start + length c + length (concat bs) ≡ start + length (c ++ concat bs) = rw (length-append c (concat bs)) (omega arith) in
    ap (λ l. place start (length c) ++ l) (files-more bs b (start + length c) ∙ ap (λ n. files (start + length c) bs ++ place n (length b)) e)

-- ---- the text `out` has been written, and the blocks `bs` behind those that stood there
pub record HeldOut (w w' : List ℕ) (to used₀ filed₀ len used filed : ℕ) (out : List ℕ) (bs : List (List ℕ)) : Type 0 where
  pub w₁ : List ℕ
  pub w₂ : List ℕ
  pub text : Appended w w₁ (text_from to 0) (text_from to len) out
  pub block : Appended w₁ w₂ (blocks_from used₀) (blocks_from used) (concat bs)
  pub filing : Appended w₂ w' (places_from filed₀) (places_from filed) (files used₀ bs)

-- one block has been copied behind the others, and its place
pub record BlockFiled (w w' : List ℕ) (at long used used' filed filed' : ℕ) : Type 0 where
  pub v : List ℕ
  pub block : Appended w v (blocks_from used) (blocks_from used') (part at long w)
  pub filing : Appended v w' (places_from filed) (places_from filed') (place used long)

pub held_none : (w : List ℕ) (to used filed : ℕ) → HeldOut w w to used filed 0 used filed [] []
unfolding concat files
held_none w to used filed =
    record { w₁ = w; w₂ = w; text = appended-none w (text_from to 0); block = appended-none w (blocks_from used); filing = appended-none w (places_from filed) }

module _
    {w w' : List ℕ} {to used₀ filed₀ len used filed : ℕ} {out : List ℕ} {bs : List (List ℕ)}
    (region : to + most_symbols ≤ blocks_at) (h : HeldOut w w' to used₀ filed₀ len used filed out bs)
  where
    -- more text
    pub held-text : {w'' : List ℕ} {len' : ℕ} {more : List ℕ} → Appended w' w'' (text_from to len) (text_from to len') more → HeldOut w w'' to used₀ filed₀ len' used filed (out ++ more) bs
    held-text a =
        let text-places : Apart places_at places_room (text_from to len) = inr (omega arith) in
        let text-blocks : Apart blocks_at blocks_room (text_from to len) = inr region in
        let f = first-second (places_from filed₀) (text_from to len) text-places h.filing a in
        let g = second-first (places_from filed₀) (text_from to len) text-places h.filing a in
        let f' = first-second (blocks_from used₀) (text_from to len) text-blocks h.block f in
        let g' = second-first (blocks_from used₀) (text_from to len) text-blocks h.block f in
        record { w₁ = _; w₂ = _; text = appended-more h.text f'; block = g'; filing = g }

    -- one more block, and its place
    pub held-block :
        {v w'' : List ℕ} {used' filed' : ℕ} {b : List ℕ}
        → Appended w' v (blocks_from used) (blocks_from used') b → Appended v w'' (places_from filed) (places_from filed') (place used (length b))
        → HeldOut w w'' to used₀ filed₀ len used' filed' out (bs ++ (b ∷ []))
    held-block {b = b} x y =
        let blocks-places : Apart places_at places_room (blocks_from used) = inr (omega arith) in
        let f = first-second (places_from filed₀) (blocks_from used) blocks-places h.filing x in
        let g = second-first (places_from filed₀) (blocks_from used) blocks-places h.filing x in
        let c = h.block.counted in
        record {
          w₁ = h.w₁;
          w₂ = puts h.w₂ blocks_at blocks_room used b;
          text = h.text;
          block = rw (joined-more bs b) (appended-more h.block f);
          filing = rw (files-more bs b used₀, ← c) (appended-more g y);
        }
