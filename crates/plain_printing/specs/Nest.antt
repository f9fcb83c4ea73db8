-- Texts in which every parenthesis and brace closes.
use Rattle.std.specs.Prelude.{◌≡◌, refl, Bool, true, ℕ}
use Rattle.std.proofs.Common.{◌∙◌}
use mathlib.Core.List.{List, [], ◌∷◌, ◌++◌, append_assoc, reverse_aux, reverse_aux-append}
use Prim.Native.Char.{code}
use Rattle.spec.specs.Symbols.{all}
use Rattle.spec.specs.Laws.Booleans.{and_left, and_right}
use Rattle.plain_printing.specs.Classes.{none_of}

-- no parenthesis or brace
abbrev pub calm : ℕ → Bool
calm x = none_of (code "(" ∷ code ")" ∷ code "{" ∷ code "}" ∷ []) x

pub data Nest : List ℕ → Type 0 where
  run : (s : List ℕ) → all calm s ≡ true → Nest s
  paren : {s : List ℕ} → Nest s → Nest (code "(" ∷ (s ++ code ")" ∷ []))
  brace : {s : List ℕ} → Nest s → Nest (code "{" ∷ (s ++ code "}" ∷ []))
  both : {s t : List ℕ} → Nest s → Nest t → Nest (s ++ t)

-- A search that only counts: d is the count, and k and l say what a parenthesis and a brace do to it.
module _ {X : Type 0} (f : ℕ → List ℕ → X) (k l : ℕ → ℕ) (calmly : (d x : ℕ) (r : List ℕ) → calm x ≡ true → f d (x ∷ r) ≡ f d r) where
  run-through : (s : List ℕ) → all calm s ≡ true → (d : ℕ) (r : List ℕ) → f d (s ++ r) ≡ f d r
  run-through [] h d r = refl
  run-through (x ∷ s) h d r = calmly d x (s ++ r) (and_left (calm x) (all calm s) h) ∙ run-through s (and_right (calm x) (all calm s) h) d r

  run-back : (s : List ℕ) → all calm s ≡ true → (d : ℕ) (p : List ℕ) → f d (reverse_aux s p) ≡ f d p
  run-back [] h d p = refl
  run-back (x ∷ s) h d p = run-back s (and_right (calm x) (all calm s) h) d (x ∷ p) ∙ calmly d x p (and_left (calm x) (all calm s) h)

  -- from left to right
  module _ (paren-in : (d : ℕ) (r : List ℕ) → f d (code "(" ∷ r) ≡ f (k d) r) (paren-out : (d : ℕ) (r : List ℕ) → f (k d) (code ")" ∷ r) ≡ f d r)
      (brace-in : (d : ℕ) (r : List ℕ) → f d (code "{" ∷ r) ≡ f (l d) r) (brace-out : (d : ℕ) (r : List ℕ) → f (l d) (code "}" ∷ r) ≡ f d r) where
    pub through : {s : List ℕ} → Nest s → (d : ℕ) (r : List ℕ) → f d (s ++ r) ≡ f d r
    through (run s h) d r = run-through s h d r
    through (paren {s = s} m) d r = rw (append_assoc s (code ")" ∷ []) r) (paren-in d (s ++ code ")" ∷ r) ∙ through m (k d) (code ")" ∷ r) ∙ paren-out d r)
    through (brace {s = s} m) d r = rw (append_assoc s (code "}" ∷ []) r) (brace-in d (s ++ code "}" ∷ r) ∙ through m (l d) (code "}" ∷ r) ∙ brace-out d r)
    through (both {s = s} {t = t} m m') d r = rw (append_assoc s t r) (through m d (t ++ r) ∙ through m' d r)

  -- from right to left, over the reversed text
  module _ (paren-in : (d : ℕ) (p : List ℕ) → f d (code ")" ∷ p) ≡ f (k d) p) (paren-out : (d : ℕ) (p : List ℕ) → f (k d) (code "(" ∷ p) ≡ f d p)
      (brace-in : (d : ℕ) (p : List ℕ) → f d (code "}" ∷ p) ≡ f (l d) p) (brace-out : (d : ℕ) (p : List ℕ) → f (l d) (code "{" ∷ p) ≡ f d p) where
    pub back : {s : List ℕ} → Nest s → (d : ℕ) (p : List ℕ) → f d (reverse_aux s p) ≡ f d p
    back (run s h) d p = run-back s h d p
    back (paren {s = s} m) d p = rw (reverse_aux-append s (code ")" ∷ []) (code "(" ∷ p)) (paren-in d (reverse_aux s (code "(" ∷ p)) ∙ back m (k d) (code "(" ∷ p) ∙ paren-out d p)
    back (brace {s = s} m) d p = rw (reverse_aux-append s (code "}" ∷ []) (code "{" ∷ p)) (brace-in d (reverse_aux s (code "{" ∷ p)) ∙ back m (l d) (code "{" ∷ p) ∙ brace-out d p)
    back (both {s = s} {t = t} m m') d p = rw (reverse_aux-append s t p) (back m' d (reverse_aux s p) ∙ back m d p)
