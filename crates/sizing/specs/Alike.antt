-- What was written on a level ends like what was read of it, as far as `\left` and `\right` go: a sized group ends with its closer, as it did. Assumes nothing.
--     Alike         two texts, last symbol first, that are the same up to the closer of a group
--     sizes-alike   sizing can't tell them apart
use Rattle.std.specs.Prelude.{◌≡◌, refl, Bool, true, false, not, ◌&&◌, ◌||◌, ◌⊎◌, ℕ, zero, suc, eqb, length}
use Rattle.std.proofs.Common.{sym, ap, ap₂, ◌∙◌, inl, inr}
use Rattle.std.proofs.Math.Bool.{and_comm}
use mathlib.Core.List.{List, [], ◌∷◌, ◌++◌, reverse, reverse_aux}
use Rattle.std.proofs.Math.Option.{Option, none, some}
use Prim.Native.Char.{code}
use Rattle.spec.specs.Symbols.{bytes, all, starts, until}
use Rattle.spec.specs.Finish.{script_group, closing, already_sized, Group, tall_group, left_right, size_step, size_with}
use Rattle.spec.specs.Laws.Booleans.{and_parts}
use Rattle.sizing.specs.Levels.{group_with, group_step, script_step, sizes}

abbrev pub Closer : ℕ → Type 0
Closer c = (c ≡ code ")") ⊎ (c ≡ code "]")

pub data Alike : List ℕ → List ℕ → Type 0 where
  nothing : Alike [] []
  more : {o p : List ℕ} (x : ℕ) → Alike o p → Alike (x ∷ o) (x ∷ p)
  group : {o p : List ℕ} (c : ℕ) → Closer c → Alike (c ∷ o) (c ∷ p)

pub alike_same : (s : List ℕ) → Alike s s
alike_same [] = nothing
alike_same (x ∷ s) = more x (alike_same s)

alike-reverse : (u : List ℕ) {o p : List ℕ} → Alike o p → Alike (reverse_aux u o) (reverse_aux u p)
alike-reverse [] a = a
alike-reverse (x ∷ u) a = alike-reverse u (more x a)

-- ---- a word without closers is met in both or in neither
abbrev free : List ℕ → Bool
free w = all (λ k. not (eqb (code ")") k) && not (eqb (code "]") k)) w

not-closer : (k c : ℕ) → not (eqb (code ")") k) && not (eqb (code "]") k) ≡ true → Closer c → eqb c k ≡ false
not-closer k c e (inl f) = ap (λ d. eqb d k) f ∙ go (eqb (code ")") k) (and_parts (not (eqb (code ")") k)) (not (eqb (code "]") k)) e).0
  where
    go : (t : Bool) → not t ≡ true → t ≡ false
    go true e = sym e
    go false e = refl
not-closer k c e (inr f) = ap (λ d. eqb d k) f ∙ go (eqb (code "]") k) (and_parts (not (eqb (code ")") k)) (not (eqb (code "]") k)) e).1
  where
    go : (t : Bool) → not t ≡ true → t ≡ false
    go true e = sym e
    go false e = refl

starts-alike : (w : List ℕ) {o p : List ℕ} → free w ≡ true → Alike o p → starts w o ≡ starts w p
starts-alike [] e a = refl
starts-alike (k ∷ w) e nothing = refl
starts-alike (k ∷ w) e (more x a) = ap (λ b. b && eqb x k) (starts-alike w (and_parts (not (eqb (code ")") k) && not (eqb (code "]") k)) (free w) e).1 a)
starts-alike (k ∷ w) e (group {o} {p} c f) =
    let n = not-closer k c (and_parts (not (eqb (code ")") k) && not (eqb (code "]") k)) (free w) e).0 f in
    ap (λ b. starts w o && b) n ∙ and_comm (starts w o) false ∙ sym (ap (λ b. starts w p && b) n ∙ and_comm (starts w p) false)

sized-alike : {o p : List ℕ} → Alike o p → already_sized o ≡ already_sized p
sized-alike a = ap₂ (λ b c. b || c) (starts-alike (reverse (bytes "\\left")) refl a) (starts-alike (reverse (bytes "\\right")) refl a)

tall-alike : {o p : List ℕ} (field x : ℕ) (s : List ℕ) → Alike o p → tall_group field o x s ≡ tall_group field p x s
unfolding tall_group
tall-alike field x s a = ap (λ t. elim t [ true ↦ none | false ↦ group_with field x s (closing x) ]) (sized-alike a)

abbrev Smaller : ℕ → ℕ → Type 0
Smaller field k = (o p s : List ℕ) → Alike o p → size_with field k o s ≡ size_with field k p s

with-alike : (field k : ℕ) (o p s : List ℕ) → Alike o p → size_with field k o s ≡ size_with field k p s
unfolding size_with size_step
with-alike field zero o p s a = refl
with-alike field (suc k) o p [] a = refl
with-alike field (suc k) o p (x ∷ s) a = script (script_group x s) (with-alike field k)
  where
    step : (q : Option Group) → Smaller field k → group_step (size_with field k) o x s q ≡ group_step (size_with field k) p x s q
    step none again = ap (λ t. x ∷ t) (again (x ∷ o) (x ∷ p) s (more x a))
    step (some g) again =
        let m = left_right x g.closer (size_with field k [] g.content) in
        ap (λ t. m ++ t) (again (reverse_aux m o) (reverse_aux m p) g.behind (alike-reverse m a))

    script : (q : Option (List ℕ)) → Smaller field k → script_step field (size_with field k) o x s q ≡ script_step field (size_with field k) p x s q
    script none again = ap (group_step (size_with field k) o x s) (tall-alike field x s a) ∙ step (tall_group field p x s) again
    script (some r) again = ap (λ t. until (x ∷ s) r ++ t) (again (reverse_aux (until (x ∷ s) r) o) (reverse_aux (until (x ∷ s) r) p) r (alike-reverse (until (x ∷ s) r) a))

pub sizes-alike : {o p : List ℕ} (field : ℕ) (s : List ℕ) → Alike o p → sizes field o s ≡ sizes field p s
unfolding sizes
sizes-alike {o} {p} field s a = with-alike field (length s) o p s a
