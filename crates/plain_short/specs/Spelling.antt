-- All texts over the eleven symbols, by number. Assumes nothing.
--     Spells           text 0 is empty, and text 11 k + c + 1 is text k with symbol c behind it
--     text_count        how many texts have at most n symbols
--     Spelling         how far a text has been written, its last symbol first
--     NumberSpelled    the whole of it is written
--     every-text       each text of at most five of the symbols has a number below 177,156 that spells it and no other
use Rattle.std.specs.Prelude.{◌≡◌, ℕ, zero, suc, ◌+◌, ◌*◌, ◌<◌, ◌≤◌, Bool, true, false, List, [], ◌∷◌, ◌++◌, length, drop, ◌==◌, nat_eq, slice_index, slice_index_or, slice_set, refl}
use Rattle.std.proofs.Common.{sym, ap, ◌∙◌, subst, append-nil, append_assoc, add-zero, suc-add, add-suc, arith, length-set, drop-cons, drop-set-lt, get_or-set_same, eqb-true}
use Rattle.std.proofs.lemmas.Bool.{false≢true}
use Rattle.std.proofs.Math.Seq.{drop-length}
use Rattle.spec.specs.Symbols.{bytes, all, any}
use Rattle.spec.specs.Laws.Booleans.{and_left, and_right}

abbrev pub symbols : List ℕ
symbols = bytes "ab1+-()/_^ "

pub data Spells : ℕ → List ℕ → Type 0 where
  nothing : Spells 0 []
  behind : (k c : ℕ) (t : List ℕ) → c < 11 → Spells k t → Spells (11 * k + c + 1) (t ++ slice_index symbols c ∷ [])

abbrev pub is_symbol : ℕ → Bool
is_symbol x = any (nat_eq x) symbols

abbrev pub text_count : ℕ → ℕ
text_count zero = 1
text_count (suc n) = suc (11 * text_count n)

-- ---- each text has a number, and a number one text
spells_one : {k m : ℕ} {t u : List ℕ} → Spells k t → Spells m u → k ≡ m → t ≡ u
spells_one nothing nothing e = refl
spells_one nothing (behind m d u g r) e = absurd (omega arith)
spells_one (behind k c t h s) nothing e = absurd (omega arith)
spells_one (behind k c t h s) (behind m d u g r) e =
    let ranks : k ≡ m = omega arith in
    let last : c ≡ d = omega arith in
    ap (λ (p : List ℕ). p ++ slice_index symbols c ∷ []) (spells_one s r ranks) ∙ ap (λ (i : ℕ). u ++ slice_index symbols i ∷ []) last

record Placed (x : ℕ) (l : List ℕ) : Type 0 where
  place : ℕ
  within : place < length l
  there : slice_index_or l place 0 ≡ x

placed : (x : ℕ) (l : List ℕ) → any (nat_eq x) l ≡ true → Placed x l
placed x [] e = absurd (false≢true e)
placed x (y ∷ l) e = go (x == y) refl (placed x l)
  where
    go : (b : Bool) → (x == y) ≡ b → (any (nat_eq x) l ≡ true → Placed x l) → Placed x (y ∷ l)
    go true h later = record { place = 0; within = omega arith; there = sym (eqb-true x y h) }
    go false h later =
        let p = later (rw h at e) in
        let w = p.within in
        record { place = suc p.place; within = omega arith; there = p.there }

-- t has a number below that of all texts of more than n symbols
record Numbered (n : ℕ) (t : List ℕ) : Type 0 where
  number : ℕ
  small : number < text_count n
  spells : Spells number t

extended : (s : List ℕ) (n : ℕ) (t : List ℕ) → Numbered n t → all is_symbol s ≡ true → Numbered (n + length s) (t ++ s)
extended [] n t k e = rw (append-nil, add-zero) k
extended (x ∷ s) n t k e =
    let p = placed x symbols (and_left (is_symbol x) (all is_symbol s) e) in
    let w = p.within in
    let m = k.small in
    let more : Numbered (suc n) (t ++ x ∷ []) = record {
      number = 11 * k.number + p.place + 1;
      small = omega arith;
      spells = subst (λ y. Spells (11 * k.number + p.place + 1) (t ++ y ∷ [])) p.there (behind k.number p.place t p.within k.spells);
    } in
    rw (add-suc, ← suc-add, ← append_assoc t (x ∷ []) s) (extended s (suc n) (t ++ x ∷ []) more (and_right (is_symbol x) (all is_symbol s) e))

texts-grow : (n m : ℕ) → n ≤ m → text_count n ≤ text_count m
texts-grow zero zero h = omega arith
texts-grow zero (suc m) h = omega arith
texts-grow (suc n) zero h = absurd (omega arith)
texts-grow (suc n) (suc m) h = let g = texts-grow n m (omega arith) in omega arith

pub record Tried (s : List ℕ) : Type 0 where
  pub number : ℕ
  pub small : number < 177156
  pub unique-text : (u : List ℕ) → Spells number u → u ≡ s

pub every-text : (s : List ℕ) → all is_symbol s ≡ true → length s ≤ 5 → Tried s
every-text s e h =
    let k = extended s 0 [] (record { number = 0; small = omega arith; spells = nothing }) e in
    let few = k.small in
    let more = texts-grow (0 + length s) 5 (omega arith) in
    record { number = k.number; small = omega arith; unique-text = λ u r. spells_one r k.spells refl }

-- ---- spelling a number
-- `left` is the number of what is still to be written before `start`
pub record Spelling (number left start : ℕ) (text : List ℕ) : Type 0 where
  pub fits : left < text_count start
  pub within : start ≤ length text
  pub spells : (p : List ℕ) → Spells left p → Spells number (p ++ drop start text)

pub spelling-begins : (number : ℕ) (text : List ℕ) → number < text_count (length text) → Spelling number number (length text) text
spelling-begins number text h = record { fits = h; within = omega arith; spells = λ p s. rw (drop-length, append-nil) s }

drop-set-here : (l : List ℕ) (i x : ℕ) → i < length l → drop i (slice_set l i x) ≡ x ∷ drop (suc i) l
drop-set-here l i x h =
    drop-cons (slice_set l i x) i 0 (rw length-set h) ∙ ap (λ (y : ℕ). y ∷ drop (suc i) (slice_set l i x)) (get_or-set_same l i x 0 h) ∙ ap (λ (r : List ℕ). x ∷ r) (drop-set-lt (suc i) l i x (omega arith))

pub spelling-goes-on :
    {number left start : ℕ} {text : List ℕ} → Spelling number left start text → (k c before : ℕ) → left ≡ 11 * k + c + 1 → c < 11 → start ≡ suc before
    → Spelling number k before (slice_set text before (slice_index symbols c))
spelling-goes-on {number} {left} {start} {text} s k c before e h b =
    let f : left < suc (11 * text_count before) = rw b at s.fits in
    let w = s.within in
    let x = slice_index_or symbols c 0 in
    record {
      fits = omega arith;
      within = rw length-set (omega arith);
      spells = λ p r.
          rw (drop-set-here text before x (omega arith), ← append_assoc p (x ∷ []) (drop (suc before) text), ← b)
          (s.spells (p ++ x ∷ []) (subst (λ n. Spells n (p ++ x ∷ [])) (sym e) (behind k c p h r)));
    }

-- all is written
pub spelling-ends : {number start : ℕ} {text : List ℕ} → Spelling number 0 start text → Spells number (drop start text)
spelling-ends s = s.spells [] nothing

pub spelling-room : {number left start : ℕ} {text : List ℕ} → Spelling number left start text → 0 < left → 0 < start
spelling-room {left = left} {start} s h = go start s.fits
  where
    go : (n : ℕ) → left < text_count n → 0 < n
    go zero f = absurd (omega arith)
    go (suc n) f = omega arith

-- the text of a number stands from `start` on
pub record NumberSpelled (number start : ℕ) (before after : List ℕ) : Type 0 where
  pub long : length after ≡ length before
  pub within : start ≤ length after
  pub spells : Spells number (drop start after)
