-- Runs of a class, and what the place where one ends says of the text.
--     member    the symbols of a class
-- Assumes nothing.
use Rattle.std.specs.Prelude.{◌≡◌, refl, Bool, true, false, not, ◌&&◌, ◌||◌, List, [], ◌∷◌, reverse, ℕ, ◌+◌, ◌-◌, ◌≤◌, eqb, length, take, drop}
use Rattle.std.proofs.Common.{sym, ap, ◌∙◌, arith, length-drop, eq-eqb, ne_eqb}
use Rattle.std.proofs.lemmas.List.{reverse-reverse}
use Rattle.spec.specs.Symbols.{is, blank, letter, digit, alnum, foreign, all, any, empty, drop_while, drop_while_end}
use Rattle.text_symbols.specs.Places.{before, before-all, AheadTo, BackTo}
use Rattle.text_symbols.specs.declared.Class.{Class}
use Rattle.text_symbols.specs.declared.Class.TheVariants.{Blank, Letter, Digit, Alnum, Formula, Latex, Only, Except}

abbrev pub member : Class → ℕ → Bool
member Blank x = blank x
member Letter x = letter x
member Digit x = digit x
member Alnum x = alnum x
member Formula x = not (foreign x)
member Latex x = not (foreign x || is "$" x)
member (Only b) x = eqb x b
member (Except b) x = not (eqb x b)

-- ---- one step, to either side: the symbols that are left, nearest first, are x ∷ q
module _ (f : ℕ → Bool) {x : ℕ} {p q : List ℕ} (here : p ≡ x ∷ q) where
  pub drop_while-more : f x ≡ true → drop_while f p ≡ drop_while f q
  drop_while-more t = ap (drop_while f) here ∙ rw (t, drop_while)

  pub drop_while-stop : f x ≡ false → drop_while f p ≡ p
  drop_while-stop t = ap (drop_while f) here ∙ rw (t, drop_while, here)

pub drop_while-none : (f : ℕ → Bool) {p : List ℕ} → p ≡ [] → drop_while f p ≡ p
drop_while-none f none = ap (drop_while f) none ∙ sym none

-- ---- what the end of a run says
-- how long the run is
pub ahead-length : {s l : List ℕ} {start r : ℕ} → AheadTo s start r l → r ≡ start + (length (drop start s) - length l)
ahead-length {s} {l} {start} {r} a =
    let f = a.from in let w = a.within in let d = length-drop start s in let e = length-drop r s in let same = ap length a.left in omega arith

-- whether it is the whole text
all-empty : (f : ℕ → Bool) (s : List ℕ) → all f s ≡ empty (drop_while f s)
all-empty f [] = refl
all-empty f (x ∷ s) = go (f x) (all-empty f s)
  where
    go : (t : Bool) → all f s ≡ empty (drop_while f s) → t && all f s ≡ empty (elim t [ true ↦ drop_while f s | false ↦ x ∷ s ])
    go true e = e
    go false e = refl

empty-drop : (s : List ℕ) (r : ℕ) → r ≤ length s → empty (drop r s) ≡ eqb r (length s)
empty-drop s r h = go (drop r s) refl
  where
    go : (t : List ℕ) → drop r s ≡ t → empty t ≡ eqb r (length s)
    go [] e = let d = length-drop r s in let n = ap length e in sym (eq-eqb r (length s) (omega arith))
    go (x ∷ t) e = let d = length-drop r s in let n = ap length e in sym (ne_eqb r (length s) (λ q. omega arith))

pub ahead-all : (f : ℕ → Bool) {s : List ℕ} {start r : ℕ} → AheadTo s start r (drop_while f (drop start s)) → eqb r (length s) ≡ all f (drop start s)
ahead-all f {s} {start} {r} a = sym (all-empty f (drop start s) ∙ ap empty (sym a.left) ∙ empty-drop s r a.within)

pub any-not-all : (f : ℕ → Bool) (s : List ℕ) → any f s ≡ not (all (λ x. not (f x)) s)
any-not-all f [] = refl
any-not-all f (x ∷ s) = go (f x) (any-not-all f s)
  where
    go : (t : Bool) → any f s ≡ not (all (λ x. not (f x)) s) → (t || any f s) ≡ not (not t && all (λ x. not (f x)) s)
    go true e = refl
    go false e = e

-- ---- what the start of a run says: the text without the run at its end
pub behind-end : (f : ℕ → Bool) {s : List ℕ} {n r : ℕ} → n ≡ length s → BackTo s n r (drop_while f (before s n)) → take r s ≡ drop_while_end f s
behind-end f {s} {n} {r} e b = sym (reverse-reverse (take r s)) ∙ ap reverse (b.left ∙ ap (λ m. drop_while f (before s m)) e ∙ ap (drop_while f) (before-all s))
