-- The capped writer: a text is written at `to` in a buffer, a byte is stored only while the count is below `cap`, and the count always goes up.
--     stored, puts      the buffer after a byte, and after a list
--     Appended          what a writing function ensures: its count, and its buffer
--     Regions           what a stage asks of the buffer
-- Assumes nothing.
use Rattle.std.specs.Prelude.{◌≡◌, refl, cond, List, [], ◌∷◌, ◌++◌, ◌⊎◌, ℕ, zero, suc, ◌+◌, ◌*◌, ◌-◌, ◌≤◌, ◌<◌, ◌^◌, ltb, length, get_or, set, take, drop}
use Rattle.std.proofs.Common.{sym, ap, ◌∙◌, inl, inr, ⊎_elim, add-zero, suc-add, add-suc, not-suc-le-zero, add-one, arith, length-set, length-append, length-take, length-drop, take-suc, get_or-set_same, get_or-set_other, ext_get_or, lt-ltb, le-ltb}
use Rattle.std.proofs.Math.Decide.{dec_lt}
use Rattle.text_search.specs.Half.{half_work}
use Rattle.spec.specs.Result.{most_symbols}
use Rattle.text.specs.declared.writer.Writer.{Writer}
use Rattle.text_symbols.specs.Parts.{part, get_d_part}

unfoldable pub stored : List ℕ → ℕ → ℕ → ℕ → ℕ → List ℕ
stored w to cap count b = cond (ltb count cap) (set w (to + count) b) w

unfoldable pub puts : List ℕ → ℕ → ℕ → ℕ → List ℕ → List ℕ
puts w to cap count [] = w
puts w to cap count (b ∷ bs) = puts (stored w to cap count b) to cap (suc count) bs

-- what a writing function asks: the region lies within the buffer, and the count stays small
pub record Room (w : List ℕ) (o : Writer) (more : ℕ) : Type 0 where
  pub region : o.to + o.cap ≤ length w
  pub small : o.count + more < 2 ^ 32

-- what it ensures: it has appended bs
pub record Appended (w w' : List ℕ) (o o' : Writer) (bs : List ℕ) : Type 0 where
  pub same-place : o'.to ≡ o.to
  pub same-cap : o'.cap ≡ o.cap
  pub counted : o'.count ≡ o.count + length bs
  pub work : w' ≡ puts w o.to o.cap o.count bs

-- a writer that has written nothing to the region at `to`, one without its last n symbols
abbrev pub started : ℕ → Writer
started to = record { to = to; cap = most_symbols; count = 0 }

abbrev pub cut_by : ℕ → Writer → Writer
cut_by n o = record { to = o.to; cap = o.cap; count = o.count - n }

-- and one with n symbols more
abbrev pub grown_by : ℕ → Writer → Writer
grown_by n o = record { to = o.to; cap = o.cap; count = o.count + n }

abbrev pub Outside : ℕ → ℕ → ℕ → Type 0
Outside to cap j = (j < to) ⊎ (to + cap ≤ j)

-- the same of what an append to `count` bytes leaves as it is
abbrev pub Untouched : ℕ → ℕ → ℕ → ℕ → Type 0
Untouched to cap count j = (j < to + count) ⊎ (to + cap ≤ j)

-- n bytes at `from` lie apart from a region
abbrev pub Apart : ℕ → ℕ → Writer → Type 0
Apart from n o = (from + n ≤ o.to) ⊎ (o.to + o.cap ≤ from)

pub apart-part : (from n : ℕ) (o : Writer) (i m : ℕ) → Apart from n o → i + m ≤ n → Apart (from + i) m o
apart-part from n o i m a h = ⊎_elim (λ l. inl (omega arith)) (λ l. inr (omega arith)) a

-- the same after an append
pub apart-kept : {w w' : List ℕ} {o o' : Writer} {bs : List ℕ} (from n : ℕ) → Appended w w' o o' bs → Apart from n o → Apart from n o'
apart-kept from n a h = let t = a.same-place in let c = a.same-cap in ⊎_elim (λ l. inl (omega arith)) (λ l. inr (omega arith)) h

-- a stage writes at most this many symbols for each that it reads: the LaTeX of a definition, which has less
abbrev pub most_written : ℕ
most_written = 8192

-- what a stage asks: n symbols at `from`, and apart from them a region in which `count` bytes have been written
pub record Regions (w : List ℕ) (from n : ℕ) (o : Writer) : Type 0 where
  pub source : from + n ≤ length w
  pub region : o.to + o.cap ≤ length w
  pub apart : Apart from n o
  pub short : n ≤ half_work
  pub small : o.count + most_written * n < 2 ^ 31

-- ---- a byte is stored below the capacity, and not from there on
stored-in : (w : List ℕ) (to cap count b : ℕ) → count < cap → stored w to cap count b ≡ set w (to + count) b
unfolding stored
stored-in w to cap count b h = rw (lt-ltb count cap h)

stored-out : (w : List ℕ) (to cap count b : ℕ) → cap ≤ count → stored w to cap count b ≡ w
unfolding stored
stored-out w to cap count b h = rw (le-ltb count cap h)

-- the same as a byte is appended
pub put-below : (w : List ℕ) (to cap count b : ℕ) → count < cap → puts w to cap count (b ∷ []) ≡ set w (to + count) b
unfolding puts
put-below = stored-in

pub put-past : (w : List ℕ) (to cap count b : ℕ) → cap ≤ count → puts w to cap count (b ∷ []) ≡ w
unfolding puts
put-past = stored-out

-- ---- whatever holds of a buffer with a store below the capacity, and of the buffer itself, holds after `stored`
either : (P : List ℕ → Type 0) (w : List ℕ) (to cap count b : ℕ) → (count < cap → P (set w (to + count) b)) → (cap ≤ count → P w) → P (stored w to cap count b)
either P w to cap count b yes' no' = go (dec_lt count cap)
  where
    go : Dec (count < cap) → P (stored w to cap count b)
    go (yes h) = rw (stored-in w to cap count b h) (yes' h)
    go (no h) = let l : cap ≤ count = omega arith in rw (stored-out w to cap count b l) (no' l)

length-stored : (w : List ℕ) (to cap count b : ℕ) → length (stored w to cap count b) ≡ length w
length-stored w to cap count b = either (λ v. length v ≡ length w) w to cap count b (λ h. length-set w (to + count) b) (λ h. refl)

pub length-puts : (bs w : List ℕ) (to cap count : ℕ) → length (puts w to cap count bs) ≡ length w
unfolding puts
length-puts [] w to cap count = refl
length-puts (b ∷ bs) w to cap count = length-puts bs (stored w to cap count b) to cap (suc count) ∙ length-stored w to cap count b

stored_other : (w : List ℕ) (to cap count b j : ℕ) → Untouched to cap count j → get_or (stored w to cap count b) j 0 ≡ get_or w j 0
stored_other w to cap count b j o =
    either (λ v. get_or v j 0 ≡ get_or w j 0) w to cap count b
    (λ h. get_or-set_other w (to + count) j b 0 (⊎_elim (λ l. omega arith) (λ l. omega arith) o))
    (λ h. refl)

-- what stands before the count, and what stands past the capacity, is as it was
pub puts-other : (bs w : List ℕ) (to cap count j : ℕ) → Untouched to cap count j → get_or (puts w to cap count bs) j 0 ≡ get_or w j 0
unfolding puts
puts-other [] w to cap count j o = refl
puts-other (b ∷ bs) w to cap count j o =
    puts-other bs (stored w to cap count b) to cap (suc count) j (⊎_elim (λ l. inl (omega arith)) (λ l. inr (omega arith)) o)
    ∙ stored_other w to cap count b j o

-- a write to a region leaves all outside of it as it was
pub puts-outside : (bs w : List ℕ) (to cap count j : ℕ) → Outside to cap j → get_or (puts w to cap count bs) j 0 ≡ get_or w j 0
puts-outside bs w to cap count j o = puts-other bs w to cap count j (⊎_elim (λ l. inl (omega arith)) (λ l. inr (omega arith)) o)

-- what was appended below the capacity stands there
pub puts-at : (bs w : List ℕ) (to cap count k : ℕ) → to + cap ≤ length w → k < length bs → count + k < cap → get_or (puts w to cap count bs) (to + (count + k)) 0 ≡ get_or bs k 0
unfolding puts
puts-at [] w to cap count k fits more below = absurd (not-suc-le-zero more)
puts-at (b ∷ bs) w to cap count zero fits more below =
    rw (add-zero count)
    (puts-other bs (stored w to cap count b) to cap (suc count) (to + count) (inl (omega arith))
    ∙ (rw (stored-in w to cap count b (omega arith)) (get_or-set_same w (to + count) b 0 (omega arith))))
puts-at (b ∷ bs) w to cap count (suc k) fits more below =
    rw (add-suc count k, ← suc-add count k)
    (puts-at bs (stored w to cap count b) to cap (suc count) k (rw (length-stored w to cap count b) fits) (omega arith) (omega arith))

-- past the capacity nothing is stored
puts-past : (bs w : List ℕ) (to cap count : ℕ) → cap ≤ count → puts w to cap count bs ≡ w
unfolding puts
puts-past [] w to cap count h = refl
puts-past (b ∷ bs) w to cap count h = ap (λ v. puts v to cap (suc count) bs) (stored-out w to cap count b h) ∙ puts-past bs w to cap (suc count) (omega arith)

pub appended-past : (bs w : List ℕ) (o : Writer) → o.cap ≤ o.count → Appended w w o (grown_by (length bs) o) bs
appended-past bs w o h = record { same-place = refl; same-cap = refl; counted = refl; work = sym (puts-past bs w o.to o.cap o.count h) }

-- ---- two appends in a row are one
puts-append : (bs cs w : List ℕ) (to cap count : ℕ) → puts (puts w to cap count bs) to cap (count + length bs) cs ≡ puts w to cap count (bs ++ cs)
unfolding puts
puts-append [] cs w to cap count = rw add-zero
puts-append (b ∷ bs) cs w to cap count =
    rw (add-suc count (length bs), ← suc-add count (length bs)) (puts-append bs cs (stored w to cap count b) to cap (suc count))

pub appended-none : (w : List ℕ) (o : Writer) → Appended w w o o []
unfolding puts
appended-none w o = record { same-place = refl; same-cap = refl; counted = sym (add-zero o.count); work = refl }

pub appended-more :
    {w w' w'' : List ℕ} {o o' o'' : Writer} {bs cs : List ℕ}
    → Appended w w' o o' bs
    → Appended w' w'' o' o'' cs
    → Appended w w'' o o'' (bs ++ cs)
appended-more {w} {o = o} {bs = bs} {cs} a b =
    record {
      same-place = b.same-place ∙ a.same-place;
      same-cap = b.same-cap ∙ a.same-cap;
      counted = rw (length-append bs cs) (let m = a.counted in let n = b.counted in omega arith);
      work = b.work ∙ (rw (a.work, a.same-place, a.same-cap, a.counted) (puts-append bs cs w o.to o.cap o.count));
    }

pub appended-long : {w w' : List ℕ} {o o' : Writer} {bs : List ℕ} → Appended w w' o o' bs → length w' ≡ length w
appended-long {w} {o = o} {bs = bs} a = ap length a.work ∙ length-puts bs w o.to o.cap o.count

-- ---- a list that is appended byte by byte: i of them have been, and one more is
module _ {w w' : List ℕ} {o o' : Writer} (bs : List ℕ) (i : ℕ) (a : Appended w w' o o' (take i bs)) (more : i < length bs) where
  pub next-room : Room w o (length bs) → Room w' o' 1
  next-room r =
      let l = appended-long a in let n = length-take i bs in let t = a.counted in let p = a.same-place in let q = a.same-cap in
      let g = r.region in let s = r.small in record { region = omega arith; small = omega arith }

  pub next-appended : {w'' : List ℕ} {o'' : Writer} → Appended w' w'' o' o'' (get_or bs i 0 ∷ []) → Appended w w'' o o'' (take (i + 1) bs)
  next-appended b = rw (add-one i, take-suc bs i 0 more) (appended-more a b)

-- the room that is left behind an append
pub room-left : {w w' : List ℕ} {o o' : Writer} {bs : List ℕ} (m : ℕ) → Appended w w' o o' bs → Room w o (length bs + m) → Room w' o' m
room-left m a r =
    let l = appended-long a in let n = a.counted in let p = a.same-place in let q = a.same-cap in let g = r.region in let s = r.small in
    record { region = omega arith; small = omega arith }

-- ---- where nothing outside the region changes, a part that lies apart from it is as it was
pub part_apart :
    (w w' : List ℕ) (o : Writer) → length w' ≡ length w → ((j : ℕ) → Outside o.to o.cap j → get_or w' j 0 ≡ get_or w j 0)
    → (from n : ℕ) → Apart from n o → part from n w' ≡ part from n w
part_apart w w' o long kept from n apart =
    ext_get_or 0 (part from n w') (part from n w) (simp (length-take, length-drop) (rw long))
    (λ i h. (let l = length-take n (drop from w') in let b : i < n = omega arith in
    get_d_part from n w' i b
    ∙ kept (from + i) (⊎_elim (λ l. inl (omega arith)) (λ l. inr (omega arith)) apart)
    ∙ sym (get_d_part from n w i b)))

pub appended-part : {w w' : List ℕ} {o o' : Writer} {bs : List ℕ} → Appended w w' o o' bs → (from n : ℕ) → Apart from n o → part from n w' ≡ part from n w
appended-part {w} {w'} {o} {bs = bs} a =
    part_apart w w' o (appended-long a) (λ j h. ap (λ v. get_or v j 0) a.work ∙ puts-outside bs w o.to o.cap o.count j h)
