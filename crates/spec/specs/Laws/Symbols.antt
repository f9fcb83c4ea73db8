-- Laws of symbols and texts: what a digit is, a place and what lies ahead of it, a text from its end, how a text begins, where a pattern is found. Assumes nothing.
use Rattle.std.specs.Prelude.{◌≡◌, refl, Bool, true, false, ◌||◌, List, [], ◌∷◌, ◌++◌, reverse, ℕ, zero, suc, ◌+◌, ◌-◌, ◌≤◌, ◌<◌, eqb, leb, length, get_or, take, drop}
use Rattle.std.proofs.Common.{sym, ap, ap₂, ◌∙◌, add-one, arith, length-append, length-drop, take-append-drop, drop_of_length-le, drop-cons, take_at, leb-true, eqb-true, eq-eqb, ne_eqb}
use Rattle.std.proofs.Math.Bool.{and-true, and-false}
use Rattle.std.proofs.lemmas.Bool.{false≢true}
use Rattle.std.proofs.lemmas.List.{reverse-append, reverse-reverse, length-reverse}
use Rattle.std.proofs.Math.Option.{Option, none, some, none-ne-some, some-ne-none}
use Prim.Native.Char.{code}
use Rattle.std.proofs.Math.Seq.{take-append_seam}
use Rattle.spec.specs.Symbols.{digit, is_some, head, past, any, until, drop_while, starts, contains, find}
use Rattle.spec.specs.Laws.Booleans.{untrue, and_left, and_right, and_parts}

-- ---- digits
pub digit-range : (x : ℕ) → digit x ≡ true → (code "0" ≤ x) × (x ≤ code "9")
digit-range x e = let both = and_parts (leb (code "0") x) (leb x (code "9")) e in (leb-true (code "0") x both.0, leb-true x (code "9") both.1)

-- ---- places
pub drop-step : (s : List ℕ) (i : ℕ) → i < length s → drop i s ≡ get_or s i 0 ∷ drop (i + 1) s
drop-step s i h = rw (add-one i) (drop-cons s i 0 h)

pub head-drop : (s : List ℕ) (i : ℕ) → head (drop i s) ≡ get_or s i 0
head-drop [] zero = refl
head-drop [] (suc i) = refl
head-drop (x ∷ s) zero = refl
head-drop (x ∷ s) (suc i) = head-drop s i

pub past-drop : (s : List ℕ) (i : ℕ) → past (drop i s) ≡ drop (i + 1) s
past-drop s i = rw (add-one i) (go s i)
  where
    go : (s : List ℕ) (i : ℕ) → past (drop i s) ≡ drop (suc i) s
    go [] zero = refl
    go [] (suc i) = refl
    go (x ∷ s) zero = refl
    go (x ∷ s) (suc i) = go s i

-- ---- a test of each symbol of a text, from a place on
module _ (f : ℕ → Bool) (s : List ℕ) (i : ℕ) where
  pub any-more : i < length s → f (get_or s i 0) ≡ false → any f (drop i s) ≡ any f (drop (i + 1) s)
  any-more h e = rw (drop-step s i h, any, e)

  pub any-stop : i < length s → f (get_or s i 0) ≡ true → any f (drop i s) ≡ true
  any-stop h e = rw (drop-step s i h, any, e)

  pub any-end : length s ≤ i → any f (drop i s) ≡ false
  any-end h = rw (drop_of_length-le s h)

-- ---- a text from its end
pub reverse-drop : (k : ℕ) (s : List ℕ) → reverse (drop k s) ≡ take (length s - k) (reverse s)
reverse-drop k s =
    let l : length (reverse (drop k s)) ≡ length s - k = length-reverse (drop k s) ∙ length-drop k s in
    sym (ap (take (length s - k)) (ap reverse (sym (take-append-drop k s)) ∙ reverse-append (take k s) (drop k s)) ∙ take_at (reverse (drop k s)) (reverse (take k s)) (length s - k) l)

pub drop-reverse : (k : ℕ) (s : List ℕ) → drop k (reverse s) ≡ reverse (take (length s - k) s)
drop-reverse k s =
    let l = length-reverse s in
    sym (reverse-reverse (drop k (reverse s))) ∙ ap reverse (reverse-drop k (reverse s) ∙ ap₂ take (ap (λ n. n - k) l) (reverse-reverse s))

pub drop_while-short : (f : ℕ → Bool) (s : List ℕ) → length (drop_while f s) ≤ length s
drop_while-short f [] = omega arith
drop_while-short f (x ∷ s) = go (f x) (drop_while-short f s)
  where
    go : (t : Bool) → length (drop_while f s) ≤ length s → length {A = ℕ} (elim t [ true ↦ drop_while f s | false ↦ x ∷ s ]) ≤ suc (length s)
    go true h = omega arith
    go false h = omega arith

-- ---- how a text begins
pub starts-long : (w s : List ℕ) → starts w s ≡ true → length w ≤ length s
starts-long [] s e = omega arith
starts-long (k ∷ w) [] e = absurd (false≢true e)
starts-long (k ∷ w) (x ∷ s) e = let l = starts-long w s (and_left (starts w s) (eqb x k) e) in omega arith

pub starts-take : (w s : List ℕ) → starts w s ≡ true → take (length w) s ≡ w
starts-take [] s e = refl
starts-take (k ∷ w) [] e = absurd (false≢true e)
starts-take (k ∷ w) (x ∷ s) e = ap₂ (λ y l. y ∷ l) (eqb-true x k (and_right (starts w s) (eqb x k) e)) (starts-take w s (and_left (starts w s) (eqb x k) e))

pub starts-split : (w s : List ℕ) → starts w s ≡ true → s ≡ w ++ drop (length w) s
starts-split w s e = sym (take-append-drop (length w) s) ∙ ap (λ l. l ++ drop (length w) s) (starts-take w s e)

pub starts-self : (w s : List ℕ) → starts w (w ++ s) ≡ true
starts-self [] s = refl
starts-self (k ∷ w) s = rw (starts-self w s) (eq-eqb k k refl)

pub starts-short : (pattern s : List ℕ) → length s < length pattern → starts pattern s ≡ false
starts-short pattern s h = untrue (starts pattern s) (λ e. let l = starts-long pattern s e in omega arith)

pub starts-unequal : (k x : ℕ) (w s : List ℕ) → eqb x k ≡ false → starts (k ∷ w) (x ∷ s) ≡ false
starts-unequal k x w s other = rw other (and-false (starts w s))

pub starts_other : (k x : ℕ) (w s : List ℕ) → (x ≡ k → ⊥) → starts (k ∷ w) (x ∷ s) ≡ false
starts_other k x w s other = starts-unequal k x w s (ne_eqb x k other)

pub starts-same : (k x : ℕ) (w s : List ℕ) → x ≡ k → starts (k ∷ w) (x ∷ s) ≡ starts w s
starts-same k x w s same = rw (eq-eqb x k same) (and-true (starts w s))

-- ---- where a pattern is found
pub find-here : (w s : List ℕ) → 0 < length s → starts w s ≡ true → find w s ≡ some s
unfolding find
find-here w [] h e = absurd (omega arith)
find-here w (x ∷ s) h e = rw (e, find)

pub find_past : (w : List ℕ) (x : ℕ) (s : List ℕ) → starts w (x ∷ s) ≡ false → find w (x ∷ s) ≡ find w s
unfolding find
find_past w x s e = rw (e, find)

-- a pattern that is found nowhere
pub find-nowhere : (w : List ℕ) (x : ℕ) (s : List ℕ) → find w (x ∷ s) ≡ none → (starts w (x ∷ s) ≡ false) × (find w s ≡ none)
unfolding find
find-nowhere w x s e = go (starts w (x ∷ s)) e
  where
    go : (t : Bool) → ◌≡◌ {A = Option (List ℕ)} (elim t [ true ↦ some (x ∷ s) | false ↦ find w s ]) none → (t ≡ false) × (find w s ≡ none)
    go true e = absurd (some-ne-none (x ∷ s) e)
    go false e = (refl, e)

-- what is found begins with the pattern
pub find-starts : (w s at : List ℕ) → find w s ≡ some at → starts w at ≡ true
unfolding find
find-starts w [] at e = absurd (none-ne-some at e)
find-starts w (x ∷ s) at e = go (starts w (x ∷ s)) refl (find-starts w s at) e
  where
    go : (t : Bool) → starts w (x ∷ s) ≡ t → (find w s ≡ some at → starts w at ≡ true)
        → ◌≡◌ {A = Option (List ℕ)} (elim t [ true ↦ some (x ∷ s) | false ↦ find w s ]) (some at) → starts w at ≡ true
    go true b later e = let same : x ∷ s ≡ at = cc in ap (starts w) (sym same) ∙ b
    go false b later e = later e

pub contains-find : (w s : List ℕ) → is_some (find w s) ≡ contains w s
unfolding find
contains-find w [] = refl
contains-find w (x ∷ s) = go (starts w (x ∷ s)) (contains-find w s)
  where
    go : (t : Bool) → is_some (find w s) ≡ contains w s → is_some {A = List ℕ} (elim t [ true ↦ some (x ∷ s) | false ↦ find w s ]) ≡ t || contains w s
    go true e = refl
    go false e = e

pub is-none : (o : Option (List ℕ)) → is_some o ≡ false → o ≡ none
is-none none e = refl
is-none (some s) e = absurd (false≢true (sym e))

pub contains-nowhere : (w s : List ℕ) → find w s ≡ none → contains w s ≡ false
contains-nowhere w s e = sym (contains-find w s) ∙ ap is_some e

pub find_absent : (w s : List ℕ) → contains w s ≡ false → find w s ≡ none
find_absent w s e = is-none (find w s) (contains-find w s ∙ e)

-- the same from a place on
pub find-drop : (w s : List ℕ) (i : ℕ) → i < length s → starts w (drop i s) ≡ false → find w (drop i s) ≡ find w (drop (i + 1) s)
find-drop w s i h e =
    ap (find w) (drop-step s i h) ∙ find_past w (get_or s i 0) (drop (i + 1) s) (ap (starts w) (sym (drop-step s i h)) ∙ e)

pub find-end : (w s : List ℕ) (i : ℕ) → length s ≤ i → find w (drop i s) ≡ none
unfolding find
find-end w s i h = ap (find w) (drop_of_length-le s h)

-- ---- ends of a text
pub until-append : (s r : List ℕ) → until (s ++ r) r ≡ s
until-append s r =
    let l = length-append s r in
    let n : length (s ++ r) - length r ≡ length s = omega arith in
    ap (λ k. take k (s ++ r)) n ∙ take-append_seam s r

pub record Tail (s r : List ℕ) : Type 0 where
  pub shorter : length r ≤ length s
  pub joined : until s r ++ r ≡ s

pub tail-here : (s : List ℕ) → Tail s s
tail-here s = let n : length s - length s ≡ 0 = omega arith in record { shorter = omega arith; joined = ap (λ k. take k s ++ s) n }

pub tail_more : (x : ℕ) {s r : List ℕ} → Tail s r → Tail (x ∷ s) r
tail_more x {s} {r} t =
    let h = t.shorter in
    let n : suc (length s) - length r ≡ suc (length s - length r) = omega arith in
    record { shorter = omega arith; joined = ap (λ k. take k (x ∷ s) ++ r) n ∙ ap (λ l. x ∷ l) t.joined }

pub find-tail : (w s at : List ℕ) → find w s ≡ some at → Tail s at
unfolding find
find-tail w [] at e = absurd (none-ne-some at e)
find-tail w (x ∷ s) at e = go (starts w (x ∷ s)) e (find-tail w s at)
  where
    go : (t : Bool) → ◌≡◌ {A = Option (List ℕ)} (elim t [ true ↦ some (x ∷ s) | false ↦ find w s ]) (some at) → (find w s ≡ some at → Tail s at) → Tail (x ∷ s) at
    go true e later = let same : x ∷ s ≡ at = cc in rw (← same) (tail-here (x ∷ s))
    go false e later = tail_more x (later e)
