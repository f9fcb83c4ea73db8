-- How many slashes a text has. Assumes nothing.
--     slashes             so many
--     slashes-append, ..  of two texts together, of a text turned round, of one cut in two
--     slashes-operand     an operand has as many as with the blanks between it and the slash
--     slashes-frac        a fraction has those of its operands
use Rattle.std.specs.Prelude.{◌≡◌, refl, Bool, true, false, ◌&&◌, ◌||◌, ℕ, suc, ◌+◌, ◌-◌, ◌≤◌, eqb, length, take, drop}
use Rattle.std.proofs.Common.{sym, ap, ◌∙◌, arith, take-append-drop, eqb-true}
use mathlib.Core.List.{List, [], ◌∷◌, ◌++◌, reverse, reverse_aux, reverse-cons}
use Prim.Native.Char.{code}
use Rattle.spec.specs.Symbols.{bytes, is, blank, head, past, until, drop_while, trim_start, trim}
use Rattle.spec.specs.Closing.{level}
use Rattle.spec.specs.Fractions.{inner_or, strip_trimmed, strip_outer_parens, frac}
use Rattle.spec.specs.Laws.Booleans.{and_parts, or_split}
use Rattle.stage_laws.specs.OperandLengths.{drop-while-length}

abbrev pub slashes : List ℕ → ℕ
slashes [] = 0
slashes (x ∷ s) = elim (is "/" x) [ true ↦ suc (slashes s) | false ↦ slashes s ]

pub slashes-slash : (x : ℕ) (s : List ℕ) → is "/" x ≡ true → slashes (x ∷ s) ≡ suc (slashes s)
slashes-slash x s e = rw (e, slashes)

pub slashes-other : (x : ℕ) (s : List ℕ) → is "/" x ≡ false → slashes (x ∷ s) ≡ slashes s
slashes-other x s e = rw (e, slashes)

pub slashes-more : (x : ℕ) (s : List ℕ) → slashes s ≤ slashes (x ∷ s)
slashes-more x s = go (is "/" x)
  where
    go : (b : Bool) → slashes s ≤ elim b as (λ _. ℕ) [ true ↦ suc (slashes s) | false ↦ slashes s ]
    go true = omega arith
    go false = omega arith

-- ---- parts
pub slashes-append : (s t : List ℕ) → slashes (s ++ t) ≡ slashes s + slashes t
slashes-append [] t = omega arith
slashes-append (x ∷ s) t = go (is "/" x) (slashes-append s t)
  where
    go : (b : Bool) → slashes (s ++ t) ≡ slashes s + slashes t
        → elim b as (λ _. ℕ) [ true ↦ suc (slashes (s ++ t)) | false ↦ slashes (s ++ t) ] ≡ elim b as (λ _. ℕ) [ true ↦ suc (slashes s) | false ↦ slashes s ] + slashes t
    go true later = omega arith
    go false later = later

pub slashes-reverse-onto : (s t : List ℕ) → slashes (reverse_aux s t) ≡ slashes s + slashes t
slashes-reverse-onto [] t = omega arith
slashes-reverse-onto (x ∷ s) t = go (is "/" x) (slashes-reverse-onto s (x ∷ t))
  where
    go : (b : Bool) → slashes (reverse_aux s (x ∷ t)) ≡ slashes s + elim b as (λ _. ℕ) [ true ↦ suc (slashes t) | false ↦ slashes t ]
        → slashes (reverse_aux s (x ∷ t)) ≡ elim b as (λ _. ℕ) [ true ↦ suc (slashes s) | false ↦ slashes s ] + slashes t
    go true later = omega arith
    go false later = later

pub slashes-reverse : (s : List ℕ) → slashes (reverse s) ≡ slashes s
slashes-reverse s = let e = slashes-reverse-onto s [] in omega arith

pub slashes-cut : (n : ℕ) (s : List ℕ) → slashes (take n s) + slashes (drop n s) ≡ slashes s
slashes-cut n s = sym (slashes-append (take n s) (drop n s)) ∙ ap slashes (take-append-drop n s)

-- ---- symbols that are no slash
abbrev Unslashed : (ℕ → Bool) → Type 0
Unslashed f = (x : ℕ) → f x ≡ true → is "/" x ≡ false

is-unslashed : (c : ℕ) → eqb c (code "/") ≡ false → Unslashed (λ x. eqb x c)
is-unslashed c e x f = ap (is "/") (eqb-true x c f) ∙ e

blank-unslashed : Unslashed blank
blank-unslashed x e =
    or_split (is " " x) (is "\t" x || is "\n" x) e (is-unslashed (code " ") refl x)
    (λ f. or_split (is "\t" x) (is "\n" x) f (is-unslashed (code "\t") refl x) (is-unslashed (code "\n") refl x))

slashes-drop-while : {f : ℕ → Bool} → Unslashed f → (s : List ℕ) → slashes (drop_while f s) ≡ slashes s
slashes-drop-while un [] = refl
slashes-drop-while {f} un (x ∷ s) = go (f x) refl (slashes-drop-while un s)
  where
    go : (b : Bool) → f x ≡ b → slashes (drop_while f s) ≡ slashes s → slashes (elim b as (λ _. List ℕ) [ true ↦ drop_while f s | false ↦ x ∷ s ]) ≡ slashes (x ∷ s)
    go true e later = later ∙ sym (slashes-other x s (un x e))
    go false e later = refl

slashes-trim : (s : List ℕ) → slashes (trim s) ≡ slashes s
slashes-trim s =
    let inner = drop_while blank s in
    slashes-reverse (drop_while blank (reverse inner)) ∙ slashes-drop-while blank-unslashed (reverse inner) ∙ slashes-reverse inner ∙ slashes-drop-while blank-unslashed s

-- ---- `strip_outer_parens` takes away none
slashes-past : (s : List ℕ) → is "/" (head s) ≡ false → slashes (past s) ≡ slashes s
slashes-past [] e = refl
slashes-past (x ∷ s) e = sym (slashes-other x s e)

-- the last symbol of the text is a parenthesis, so that of the text without its first is one too, if there is one
slashes-past-last : (s : List ℕ) (x : ℕ) → is ")" (head (s ++ x ∷ [])) ≡ true → slashes (past s) ≡ slashes s
slashes-past-last [] x e = refl
slashes-past-last (y ∷ s) x e = slashes-past (y ∷ s) (is-unslashed (code ")") refl y e)

slashes-inner : (s : List ℕ) → is "(" (head s) ≡ true → is ")" (head (reverse s)) ≡ true → slashes (reverse (past (reverse (past s)))) ≡ slashes s
slashes-inner [] e f = refl
slashes-inner (x ∷ s) e f =
    slashes-reverse (past (reverse s))
    ∙ slashes-past-last (reverse s) x (ap (λ l. is ")" (head l)) (sym (reverse-cons x s)) ∙ f)
    ∙ slashes-reverse s
    ∙ slashes-past (x ∷ s) (is-unslashed (code "(") refl x e)

slashes-strip-trimmed : (s : List ℕ) → slashes (strip_trimmed s) ≡ slashes s
slashes-strip-trimmed s = go (is "(" (head s) && is ")" (head (reverse s))) refl
  where
    inner : List ℕ
    inner = reverse (past (reverse (past s)))

    either : (b : Bool) → slashes inner ≡ slashes s → slashes (elim b as (λ _. List ℕ) [ true ↦ inner | false ↦ s ]) ≡ slashes s
    either true e = e
    either false e = refl

    go : (b : Bool) → is "(" (head s) && is ")" (head (reverse s)) ≡ b → slashes (elim b as (λ _. List ℕ) [ true ↦ inner_or s (reverse (past (reverse (past s)))) | false ↦ s ]) ≡ slashes s
    go true e = let both = and_parts (is "(" (head s)) (is ")" (head (reverse s))) e in either (level (code "(") (code ")") 0 inner) (slashes-inner s both.0 both.1)
    go false e = refl

slashes-strip : (s : List ℕ) → slashes (strip_outer_parens s) ≡ slashes s
unfolding strip_outer_parens
slashes-strip s = slashes-strip-trimmed (trim s) ∙ slashes-trim s

-- ---- a fraction
pub slashes-operand : (p q : List ℕ) → length q ≤ length (trim_start p) → slashes (until (trim_start p) q) ≡ slashes (until p q)
slashes-operand [] q h = refl
slashes-operand (x ∷ p) q h = go (blank x) refl h (slashes-operand p q)
  where
    go : (b : Bool) → blank x ≡ b → length q ≤ length {A = ℕ} (elim b as (λ _. List ℕ) [ true ↦ trim_start p | false ↦ x ∷ p ])
        → (length q ≤ length (trim_start p) → slashes (until (trim_start p) q) ≡ slashes (until p q))
        → slashes (until (elim b as (λ _. List ℕ) [ true ↦ trim_start p | false ↦ x ∷ p ]) q) ≡ slashes (until (x ∷ p) q)
    go true e h later =
        let l = drop-while-length blank p in
        let n : suc (length p) - length q ≡ suc (length p - length q) = omega arith in
        later h ∙ sym (ap (λ k. slashes (take k (x ∷ p))) n ∙ slashes-other x (until p q) (blank-unslashed x e))
    go false e h later = refl

pub slashes-frac : (num den : List ℕ) → slashes (frac (strip_outer_parens num) (strip_outer_parens den)) ≡ slashes num + slashes den
slashes-frac num den =
    let n = strip_outer_parens num in let d = strip_outer_parens den in
    let a = slashes-append n (bytes "}{" ++ (d ++ bytes "}")) in let b = slashes-append d (bytes "}") in
    let e = slashes-strip num in let f = slashes-strip den in
    omega arith
