-- The steps of each reader, as laws: from what its callees answered follows what it answers. A law names each stretch of the text by a
-- variable and an equation, so that a proof hands over what the code ensures as it stands. Completeness goes by the same laws.
-- Assumes nothing.
use Rattle.std.specs.Prelude.{◌≡◌, refl, Bool, true, false, List, eqb, ltb, drop}
use Rattle.std.proofs.Common.{sym, ap, ◌∙◌, arith, length-drop}
use Prim.Native.Nat.{ℕ, zero, suc, ◌+◌, ◌*◌, ◌-◌, ◌≤◌, ◌<◌, ◌^◌}
use Prim.Native.Char.{code}
use Rattle.std.proofs.Math.ListN.{length}
use borrow.Author.Tests.{ltb-true, eqb-true, eq-eqb, ne_eqb, lt-ltb}
use Rattle.spec.specs.Symbols.{alnum}
use Rattle.plain_parts.specs.declared.PlainPart.{PlainPart}
use Rattle.std.specs.Prelude.{Some, None}
use Rattle.plain_parts.specs.Parts.{Read, at, JoinFits, ReadWithin, bytes_of, either, and_then, join, indivisible, wrap, as_script, leaf, adjoined, divided, scripted, closed, enclosed_script}
use Rattle.plain_check.specs.Tokens.{sign_next, factor_next, atom_length}
use Rattle.plain_check.specs.Readers.{Answers, read_sum, read_product, read_factor, read_operand, read_scripts, read_script}
use Rattle.plain_check.specs.Rooms.{in-text, sign-room, factor-room, byte-room, word_room, atom-room}

-- a reader has found p at the front of xs, and ys is what is left
pub record Front (read : ℕ → List ℕ → Read) (rank : ℕ) (xs : List ℕ) (p : PlainPart) (ys : List ℕ) : Type 0 where
  pub answers : Answers read rank xs (Some p)
  pub behind : ys ≡ drop p.used xs

-- xs is p, a gap, and zs
pub record Split (xs : List ℕ) (p : PlainPart) (gap : ℕ) (zs : List ℕ) : Type 0 where
  pub size : p.used + gap + length zs ≡ length xs
  pub atoms : p.atoms ≤ p.used

pub fit : {xs zs : List ℕ} {r : Read} {p : PlainPart} {gap : ℕ} → length xs < 2 ^ 64 → Split xs p gap zs → ReadWithin r zs → JoinFits p gap r
fit l s v = omega arith

module _ {xs zs : List ℕ} {p : PlainPart} where
  pub adjoined-within : {gap : ℕ} (r : Read) → Split xs p gap zs → ReadWithin r zs → ReadWithin (adjoined p gap r) xs
  adjoined-within None s v = omega arith
  adjoined-within (Some q) s v = omega arith

  divided-within : (r : Read) → Split xs p 1 zs → ReadWithin r zs → ReadWithin (divided p r) xs
  divided-within None s v = omega arith
  divided-within (Some q) s v = by (indivisible p q)
    where
      by : (b : Bool) → ReadWithin (either b (λ _. None) (λ _. Some (join p 1 q))) xs
      by true = omega arith
      by false = omega arith

  scripted-within : (r : Read) → Split xs p 0 zs → ReadWithin r zs → ReadWithin (scripted p r) xs
  scripted-within None s v = omega arith
  scripted-within (Some q) s v = omega arith

-- the fuel of a step is one more than that of its callees
answers : {read : ℕ → List ℕ → Read} {rank : ℕ} {xs : List ℕ} {r : Read} → ((k : ℕ) → 5 * length xs + rank ≤ k → r ≡ read (suc k) xs) → ReadWithin r xs → Answers read rank xs r
answers {read} {rank} {xs} {r} f w = record { exact = go; within = w }
  where
    go : (k : ℕ) → 5 * length xs + rank < k → r ≡ read k xs
    go zero h = absurd (omega arith)
    go (suc k) h = f k (omega arith)

module _ {read : ℕ → List ℕ → Read} {rank : ℕ} {xs : List ℕ} {p : PlainPart} {ys : List ℕ} (front : Front read rank xs p ys) where
  split : (gap : ℕ) {zs : List ℕ} → gap ≤ length ys → zs ≡ drop gap ys → Split xs p gap zs
  split gap {zs} g f = let w = front.answers.within in
      omega (arith, w, ap length front.behind ∙ length-drop p.used xs, ap length f ∙ length-drop gap ys)

  found : (k : ℕ) → 5 * length xs + rank < k → Some p ≡ read k xs
  found = front.answers.exact

-- A series is parts with a gap between them: a sum of products, a product of factors. `next` says whether a gap and one more part come next; `part`,
-- of this rank, reads a part, and `read` the series.
pub record Series : Type 0 where
  pub next : List ℕ → Bool
  pub gap : ℕ
  pub positive : 0 < gap
  pub room : (xs : List ℕ) → next xs ≡ true → gap ≤ length xs
  pub part : ℕ → List ℕ → Read
  pub read : ℕ → List ℕ → Read
  pub rank : ℕ
  pub step : (k : ℕ) (xs : List ℕ) → read (suc k) xs ≡ (and_then (part k xs) λ p. let ys = drop p.used xs in either (next ys) (λ _. adjoined p gap (read k (drop gap ys))) (λ _. Some p))

pub sum_step : (k : ℕ) (xs : List ℕ) → read_sum (suc k) xs ≡ (and_then (read_product k xs) λ p. let ys = drop p.used xs in either (sign_next ys) (λ _. adjoined p 3 (read_sum k (drop 3 ys))) (λ _. Some p))
unfolding read_sum
sum_step k xs = refl

abbrev pub sums : Series
sums = record { next = sign_next; gap = 3; positive = omega arith; room = sign-room; part = read_product; read = read_sum; rank = 3; step = sum_step }

pub product-step : (k : ℕ) (xs : List ℕ) → read_product (suc k) xs ≡ (and_then (read_factor k xs) λ p. let ys = drop p.used xs in either (factor_next ys) (λ _. adjoined p 1 (read_product k (drop 1 ys))) (λ _. Some p))
unfolding read_product
product-step k xs = refl

abbrev pub products : Series
products = record { next = factor_next; gap = 1; positive = omega arith; room = factor-room; part = read_factor; read = read_product; rank = 2; step = product-step }

module _ (σ : Series) {xs : List ℕ} where
  pub series-nothing : Answers σ.part σ.rank xs None → Answers σ.read (suc σ.rank) xs None
  series-nothing a = answers (λ k h. sym (σ.step k xs ∙ rw (← a.exact k (omega arith)))) (omega arith)

  module _ {ys : List ℕ} {p : PlainPart} (front : Front σ.part σ.rank xs p ys) where
    pub series-done : σ.next ys ≡ false → Answers σ.read (suc σ.rank) xs (Some p)
    series-done t = answers (λ k h. sym (σ.step k xs ∙ rw (← found front k (omega arith), ← front.behind, t))) front.answers.within

    pub series-more : {zs : List ℕ} {r : Read} → σ.next ys ≡ true → zs ≡ drop σ.gap ys → Answers σ.read (suc σ.rank) zs r → Answers σ.read (suc σ.rank) xs (adjoined p σ.gap r)
    series-more {zs} {r} t f next =
        let s = split front σ.gap (σ.room ys t) f in
        let g = σ.positive in
        answers (λ k h. sym (σ.step k xs ∙ rw (← found front k (omega arith), ← front.behind, t, ← f, ← next.exact k (omega arith)))) (adjoined-within r s next.within)

-- a sum in parentheses is no lone atom
abbrev lone_of : Read → Bool
lone_of None = false
lone_of (Some p) = p.lone

closed-lone : (xs : List ℕ) (r : Read) → lone_of (closed xs r) ≡ false
closed-lone xs None = refl
closed-lone xs (Some p) = by (eqb (at xs p.used) (code ")"))
  where
    by : (b : Bool) → lone_of (either b (λ _. Some (wrap p)) (λ _. None)) ≡ false
    by true = refl
    by false = refl

group-lone : (b : Bool) (xs : List ℕ) (r : Read) → lone_of (either b (λ _. closed xs r) (λ _. None)) ≡ false
group-lone true xs r = closed-lone xs r
group-lone false xs r = refl

-- a factor
pub factor-nothing : {xs : List ℕ} → Answers read_operand 1 xs None → Answers read_factor 2 xs None
unfolding read_factor
factor-nothing a = answers (λ k h. rw (← a.exact k (omega arith))) (omega arith)

module _ {xs ys : List ℕ} {p : PlainPart} (front : Front read_operand 1 xs p ys) where
  pub fraction-split : {zs : List ℕ} → at ys 0 ≡ code "/" → zs ≡ drop 1 ys → Split xs p 1 zs
  fraction-split t f = split front 1 (byte-room ys (code "/") (omega arith) t) f

  pub scripted-split : Split xs p 0 ys
  scripted-split = split front 0 (omega arith) refl

  pub factor-fraction : {zs : List ℕ} {r : Read} → at ys 0 ≡ code "/" → zs ≡ drop 1 ys → Answers read_operand 1 zs r → Answers read_factor 2 xs (divided p r)
  unfolding read_factor
  factor-fraction {zs} {r} t f next = let s = fraction-split t f in
      answers (λ k h. rw (← found front k (omega arith), ← front.behind, eq-eqb (at ys 0) (code "/") t, ← f, ← next.exact k (omega arith))) (divided-within r s next.within)

  pub factor-scripted : {r : Read} → (at ys 0 ≡ code "/" → ⊥) → p.lone ≡ true → Answers read_scripts 1 ys r → Answers read_factor 2 xs (scripted p r)
  unfolding read_factor
  factor-scripted {r} t l next = let s = scripted-split in
      answers (λ k h. rw (← found front k (omega arith), ← front.behind, ne_eqb (at ys 0) (code "/") t, l, ← next.exact k (omega arith))) (scripted-within r s next.within)

  pub factor-done : (at ys 0 ≡ code "/" → ⊥) → p.lone ≡ false → Answers read_factor 2 xs (Some p)
  unfolding read_factor
  factor-done t l = answers (λ k h. rw (← found front k (omega arith), ← front.behind, ne_eqb (at ys 0) (code "/") t, l)) front.answers.within

  -- what is read as an operand is no atom: that would have been read with its scripts, or as a numerator
  pub factor-group : (0 < atom_length xs → at (drop (atom_length xs) xs) 0 ≡ code "/") → (at ys 0 ≡ code "/" → ⊥) → Answers read_factor 2 xs (Some p)
  unfolding read_operand
  factor-group f t = factor-done t (by (ltb 0 (atom_length xs)) refl)
    where
      k : ℕ
      k = 5 * length xs + 1

      reading : Some p ≡ read_operand (suc k) xs
      reading = found front (suc k) (omega arith)

      by : (b : Bool) → ltb 0 (atom_length xs) ≡ b → p.lone ≡ false
      by true g =
          let atom : Some p ≡ Some (leaf (atom_length xs) 1 true) = rw g at reading in
          absurd (t (ap (λ l. at l 0) (front.behind ∙ ap (λ m. drop m xs) (ap bytes_of atom)) ∙ f (ltb-true 0 (atom_length xs) g)))
      by false g = ap lone_of (rw g at reading) ∙ group-lone (eqb (at xs 0) (code "(")) (drop 1 xs) (read_sum k (drop 1 xs))

-- an operand
pub tail-size : (xs : List ℕ) {ys : List ℕ} → ys ≡ drop 1 xs → length ys ≡ length xs - 1
tail-size xs d = ap length d ∙ length-drop 1 xs

closed-within : {xs ys : List ℕ} (r : Read) → ys ≡ drop 1 xs → ReadWithin r ys → ReadWithin (closed ys r) xs
closed-within None d w = omega arith
closed-within {xs} {ys} (Some p) d w = by (eqb (at ys p.used) (code ")")) refl
  where
    by : (b : Bool) → eqb (at ys p.used) (code ")") ≡ b → ReadWithin (either b (λ _. Some (wrap p)) (λ _. None)) xs
    by true e = let f = eqb-true (at ys p.used) (code ")") e in omega (arith, in-text ys p.used (omega arith), tail-size xs d)
    by false e = omega arith

enclosed-script-within : {xs ys : List ℕ} (r : Read) → 1 ≤ length xs → ys ≡ drop 1 xs → ReadWithin r ys → ReadWithin (enclosed_script r) xs
enclosed-script-within None h d w = omega arith
enclosed-script-within {xs} {ys} (Some p) h d w = by p.scriptless
  where
    by : (b : Bool) → ReadWithin (either b (λ _. Some (as_script p)) (λ _. None)) xs
    by true = omega (arith, tail-size xs d)
    by false = omega arith

module _ (xs : List ℕ) where
  pub operand-atom : {n : ℕ} → n ≡ atom_length xs → 0 < n → Answers read_operand 1 xs (Some (leaf n 1 true))
  unfolding read_operand
  operand-atom {n} e h = answers (λ k _. rw (← e, lt-ltb 0 n h)) (omega (arith, atom-room xs))

  pub operand-group : {ys : List ℕ} {r : Read} → 0 ≡ atom_length xs → at xs 0 ≡ code "(" → ys ≡ drop 1 xs → Answers read_sum 4 ys r → Answers read_operand 1 xs (closed ys r)
  unfolding read_operand
  operand-group {ys} {r} e t d next =
      answers (λ k enough. rw (← e, eq-eqb (at xs 0) (code "(") t, ← d, ← next.exact k (omega (arith, tail-size xs d, byte-room xs (code "(") (omega arith) t)))) (closed-within r d next.within)

  pub operand-nothing : 0 ≡ atom_length xs → (at xs 0 ≡ code "(" → ⊥) → Answers read_operand 1 xs None
  unfolding read_operand
  operand-nothing e t = answers (λ k _. rw (← e, ne_eqb (at xs 0) (code "(") t)) (omega arith)

-- the scripts of an atom
pub scripts-nothing : {xs : List ℕ} → Answers (read_script (code "_")) 0 xs None → Answers read_scripts 1 xs None
unfolding read_scripts
scripts-nothing a = answers (λ k h. rw (← a.exact k (omega arith))) (omega arith)

module _ {xs ys : List ℕ} {p : PlainPart} (front : Front (read_script (code "_")) 0 xs p ys) where
  pub scripts-split : Split xs p 0 ys
  scripts-split = split front 0 (omega arith) refl

  pub scripts-more : {r : Read} → Answers (read_script (code "^")) 0 ys r → Answers read_scripts 1 xs (adjoined p 0 r)
  unfolding read_scripts
  scripts-more {r} next = let s = scripts-split in
      answers (λ k h. rw (← found front k (omega arith), ← front.behind, ← next.exact k (omega arith))) (adjoined-within r s next.within)

-- a script
module _ (sign : ℕ) (xs : List ℕ) where
  pub script-absent : (at xs 0 ≡ sign → ⊥) → Answers (read_script sign) 0 xs (Some (leaf 0 0 true))
  unfolding read_script
  script-absent t = answers (λ k _. rw (ne_eqb (at xs 0) sign t)) (omega arith)

  module _ {ys : List ℕ} (pos : 0 < sign) (t : at xs 0 ≡ sign) (d : ys ≡ drop 1 xs) where
    pub script-short : alnum (at ys 0) ≡ true → Answers (read_script sign) 0 xs (Some (leaf 2 0 false))
    unfolding read_script
    script-short e = answers (λ k _. rw (eq-eqb (at xs 0) sign t, ← d, e)) (omega (arith, word_room ys e, tail-size xs d))

    pub script-group : {r : Read} → alnum (at ys 0) ≡ false → Answers read_operand 1 ys r → Answers (read_script sign) 0 xs (enclosed_script r)
    unfolding read_script
    script-group {r} e next =
        let one = byte-room xs sign pos t in
        answers (λ k enough. rw (eq-eqb (at xs 0) sign t, ← d, e, ← next.exact k (omega (arith, tail-size xs d)))) (enclosed-script-within r one d next.within)
