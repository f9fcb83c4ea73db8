-- What the brace step does, for every text: document 02's A10. Assumes nothing.
--     set-braces      it only inserts backslashes before braces: before both of a pair or neither, before no closer that matches nothing, and before which openers
--     opener-before   a closer matches an opener that stands before it
--     escape-step     what the step does with one symbol
use Rattle.std.specs.Prelude.{◌≡◌, refl, Bool, true, false, not, cond, ◌||◌, ◌⊎◌, take, get_or}
use Rattle.std.proofs.Common.{sym, ◌∙◌, true≢false, inl, inr, zero-add, add-zero, eqb-true}
use Rattle.std.proofs.Math.Path.{ap}
use Rattle.std.proofs.Math.Bool.{not-not}
use mathlib.Core.List.{List, [], ◌∷◌, ◌++◌, map}
use Rattle.std.proofs.Math.Option.{none, some}
use Prim.Native.Nat.{ℕ, zero, suc, ◌+◌, ◌<◌, ◌≤◌}
use Prim.Native.Char.{code}
use native.Mathlib.Omega.{arith}
use Rattle.std.proofs.Math.Seq.{take-nil}
use Rattle.spec.specs.Symbols.{bytes, is, letter, digit, past}
use Rattle.spec.specs.Finish.{groups_behind, top, popped, brace, escape_braces, escape_set_braces}
use Rattle.spec.specs.Braces.{symbol_stack, text_stack, last_opened, opener_of, inserted, keeps_bare, EscapesBraces}
use Rattle.spec.specs.Laws.Booleans.{or_right}
use Rattle.spec.specs.Laws.Braces.{bare_behind, stack_behind}

-- ---- one symbol of the step
pub escape-step : (stack : List Bool) (before x : ℕ) (s : List ℕ) → escape_braces stack before (x ∷ s) ≡ brace (bare_behind stack before x) x ++ escape_braces (stack_behind stack before x) x s
unfolding escape_braces
escape-step stack before x s = go (is "{" x) refl (is "}" x) refl
  where
    go : (a : Bool) → is "{" x ≡ a → (b : Bool) → is "}" x ≡ b → escape_braces stack before (x ∷ s) ≡ brace (bare_behind stack before x) x ++ escape_braces (stack_behind stack before x) x s
    go true e b f = rw (e, escape_braces, bare_behind, stack_behind)
    go false e true f = rw (e, f, escape_braces, bare_behind, stack_behind)
    go false e false f = rw (e, f, escape_braces, bare_behind, stack_behind)

-- ---- the marks, from the step's own stack
unfoldable marks : List Bool → ℕ → List ℕ → ℕ → Bool
marks stack before [] i = false
marks stack before (x ∷ s) zero = not (bare_behind stack before x)
marks stack before (x ∷ s) (suc i) = marks (stack_behind stack before x) x s i

inserts-from : (stack : List Bool) (before : ℕ) (s : List ℕ) → escape_braces stack before s ≡ inserted (marks stack before s) s
unfolding escape_braces marks inserted
inserts-from stack before [] = refl
inserts-from stack before (x ∷ s) =
    escape-step stack before x s ∙ written (bare_behind stack before x) (inserts-from (stack_behind stack before x) x s)
  where
    written : (b : Bool) {t u : List ℕ} → t ≡ u → brace b x ++ t ≡ cond (not b) (bytes "\\") [] ++ (x ∷ u)
    written true e = ap (λ l. x ∷ l) e
    written false e = ap (λ l. code "\\" ∷ x ∷ l) e

-- ---- only braces are marked
braces-only : (stack : List Bool) (before : ℕ) (s : List ℕ) (i : ℕ) → marks stack before s i ≡ true → (get_or s i 0 ≡ code "{") ⊎ (get_or s i 0 ≡ code "}")
unfolding marks
braces-only stack before (x ∷ s) (suc i) e = braces-only (stack_behind stack before x) x s i e
braces-only stack before (x ∷ s) zero e = go (is "{" x) refl (is "}" x) refl e
  where
    go : (a : Bool) → is "{" x ≡ a → (b : Bool) → is "}" x ≡ b
        → not (elim a as (λ _. Bool) [ true ↦ groups_behind before | false ↦ elim b as (λ _. Bool) [ true ↦ top stack | false ↦ true ] ]) ≡ true
        → (x ≡ code "{") ⊎ (x ≡ code "}")
    go true f b g e = inl (eqb-true x (code "{") f)
    go false f true g e = inr (eqb-true x (code "}") g)
    go false f false g e = absurd (true≢false (sym e))
braces-only stack before [] i e = absurd (true≢false (sym e))

-- ---- an opener goes by the symbol before it
opener-marked : (stack : List Bool) (before : ℕ) (s : List ℕ) (i : ℕ) → get_or s i 0 ≡ code "{" → marks stack before s i ≡ not (groups_behind (get_or (before ∷ s) i 0))
unfolding marks
opener-marked stack before [] zero e = cc
opener-marked stack before [] (suc i) e = cc
opener-marked stack before (x ∷ s) zero e = rw e
opener-marked stack before (x ∷ s) (suc i) e = opener-marked (stack_behind stack before x) x s i e

keeps-bare : (before : ℕ) → groups_behind before ≡ keeps_bare before
keeps-bare b = go (letter b) (digit b) (is "_" b) (is "^" b) (is "{" b) (is "}" b) (is "\\" b)
  where
    go : (l d u c o k h : Bool) → u || (c || (o || (k || ((l || d) || h)))) ≡ l || (d || (u || (c || (o || (k || (h || false))))))
    go true d u c o k h = or_right u _ (or_right c _ (or_right o _ (or_right k _ refl)))
    go false true u c o k h = or_right u _ (or_right c _ (or_right o _ (or_right k _ refl)))
    go false false u c o k true = refl
    go false false u c o k false = refl

-- ---- a closer goes by the stack: m marks the places, those of the text from i₀ on
module _ (m : ℕ → Bool) where
  abbrev grouping : List ℕ → List Bool
  grouping places = map (λ i. not (m i)) places

  past-grouping : (places : List ℕ) → popped (grouping places) ≡ grouping (past places)
  past-grouping [] = refl
  past-grouping (i ∷ places) = refl

  -- an opener's mark is what it leaves on the step's stack
  same-stack : (places : List ℕ) (i before x : ℕ) → m i ≡ not (bare_behind (grouping places) before x) → stack_behind (grouping places) before x ≡ grouping (symbol_stack i x places)
  same-stack places i before x e = go (is "{" x) (is "}" x) e
    where
      go : (a b : Bool) → m i ≡ not (elim a as (λ _. Bool) [ true ↦ groups_behind before | false ↦ elim b as (λ _. Bool) [ true ↦ top (grouping places) | false ↦ true ] ])
          → (elim a as (λ _. List Bool) [ true ↦ groups_behind before ∷ grouping places | false ↦ elim b as (λ _. List Bool) [ true ↦ popped (grouping places) | false ↦ grouping places ] ])
          ≡ grouping (elim a as (λ _. List ℕ) [ true ↦ i ∷ places | false ↦ elim b as (λ _. List ℕ) [ true ↦ past places | false ↦ places ] ])
      go true b e = ap (λ g. g ∷ grouping places) (sym (ap not e ∙ not-not (groups_behind before)))
      go false true e = past-grouping places
      go false false e = refl

  closer-marked : (places : List ℕ) (i₀ before : ℕ) (s : List ℕ) → ((i : ℕ) → m (i + i₀) ≡ marks (grouping places) before s i)
      → (j : ℕ) → get_or s j 0 ≡ code "}" → marks (grouping places) before s j ≡ not (top (grouping (text_stack i₀ places (take j s))))
  unfolding marks text_stack
  closer-marked places i₀ before [] h zero e = cc
  closer-marked places i₀ before [] h (suc j) e = cc
  closer-marked places i₀ before (x ∷ s) h zero e = rw e
  closer-marked places i₀ before (x ∷ s) h (suc j) e =
      let stack : stack_behind (grouping places) before x ≡ grouping (symbol_stack i₀ x places) = same-stack places i₀ before x (ap m (sym (zero-add i₀)) ∙ h 0) in
      rw stack (closer-marked (symbol_stack i₀ x places) (suc i₀) x s (λ i. let next : i + suc i₀ ≡ suc i + i₀ = omega arith in ap m next ∙ h (suc i) ∙ ap (λ b. marks b x s i) stack) j e)

  top-matched : (places : List ℕ) (i : ℕ) → last_opened places ≡ some i → {b : Bool} → b ≡ not (top (grouping places)) → m i ≡ b
  top-matched [] i e f = cc
  top-matched (k ∷ places) i e f = let same : k ≡ i = cc in sym (f ∙ not-not (m k) ∙ ap m same)

  top-none : (places : List ℕ) → last_opened places ≡ none → {b : Bool} → b ≡ not (top (grouping places)) → b ≡ false
  top-none [] e f = f
  top-none (k ∷ places) e f = cc

-- ---- what a closer matches is an opener before it
-- f gives the symbol at a place, and n bounds the place
abbrev Stands : (ℕ → ℕ) → ℕ → ℕ → Type 0
Stands f n i = (i < n) × (f i ≡ code "{")

abbrev Each : (ℕ → Type 0) → List ℕ → Type 0
Each P [] = Unit {0}
Each P (i ∷ places) = P i × Each P places

module _ (f : ℕ → ℕ) where
  each-later : (n k : ℕ) → n ≤ k → (places : List ℕ) → Each (Stands f n) places → Each (Stands f k) places
  each-later n k l [] h = tt
  each-later n k l (i ∷ places) h = let below = h.0.0 in ((omega arith, h.0.1), each-later n k l places h.1)

  each-past : (n : ℕ) (places : List ℕ) → Each (Stands f n) places → Each (Stands f n) (past places)
  each-past n [] h = tt
  each-past n (i ∷ places) h = h.1

  each-behind : (n x : ℕ) (places : List ℕ) → f n ≡ x → Each (Stands f n) places → Each (Stands f (suc n)) (symbol_stack n x places)
  each-behind n x places e h = go (is "{" x) refl (is "}" x)
    where
      go : (a : Bool) → is "{" x ≡ a → (b : Bool)
          → Each (Stands f (suc n)) (elim a as (λ _. List ℕ) [ true ↦ n ∷ places | false ↦ elim b as (λ _. List ℕ) [ true ↦ past places | false ↦ places ] ])
      go true g b = ((omega arith, e ∙ eqb-true x (code "{") g), each-later n (suc n) (omega arith) places h)
      go false g true = each-later n (suc n) (omega arith) (past places) (each-past n places h)
      go false g false = each-later n (suc n) (omega arith) places h

  each_after : (n : ℕ) (places s : List ℕ) → ((i : ℕ) → f (i + n) ≡ get_or s i 0) → Each (Stands f n) places → (j : ℕ) → Each (Stands f (j + n)) (text_stack n places (take j s))
  unfolding text_stack
  each_after n places [] e h j = rw (take-nil {A = ℕ} j) (each-later n (j + n) (omega arith) places h)
  each_after n places (x ∷ s) e h zero = rw (zero-add n) h
  each_after n places (x ∷ s) e h (suc j) =
      let next : suc j + n ≡ j + suc n = omega arith in
      rw next (each_after (suc n) (symbol_stack n x places) s (λ i. let next : i + suc n ≡ suc i + n = omega arith in ap f next ∙ e (suc i)) (each-behind n x places (ap f (sym (zero-add n)) ∙ e 0) h) j)

pub opener-before : (s : List ℕ) (i j : ℕ) → opener_of s j ≡ some i → (i < j) × (get_or s i 0 ≡ code "{")
opener-before s i j e = go (text_stack 0 [] (take j s)) e (each_after (λ i. get_or s i 0) 0 [] s (λ i. ap (λ k. get_or s k 0) (add-zero i)) tt j)
  where
    go : (places : List ℕ) → last_opened places ≡ some i → Each (Stands (λ i. get_or s i 0) (j + 0)) places → (i < j) × (get_or s i 0 ≡ code "{")
    go [] e h = let lost : ◌≡◌ {A = ℕ} 0 1 = cc in absurd (omega arith)
    go (k ∷ places) e h = let same : k ≡ i = cc in rw (same, add-zero j) at h.0

-- ---- the step
pub set-braces : (s : List ℕ) → EscapesBraces s (escape_set_braces s)
unfolding escape_set_braces
set-braces s =
    record {
      marked = marks [] 0 s;
      inserts = inserts-from [] 0 s;
      only-braces = braces-only [] 0 s;
      first-opener = opener-marked [] 0 s 0;
      opener = λ i e. opener-marked [] 0 s (suc i) e ∙ ap not (keeps-bare (get_or s i 0));
      pair = λ i j e f. top-matched (marks [] 0 s) (text_stack 0 [] (take j s)) i f (closer j e);
      unmatched = λ j e f. top-none (marks [] 0 s) (text_stack 0 [] (take j s)) f (closer j e);
    }
  where
    closer : (j : ℕ) → get_or s j 0 ≡ code "}" → marks [] 0 s j ≡ not (top (grouping (marks [] 0 s) (text_stack 0 [] (take j s))))
    closer = closer-marked (marks [] 0 s) [] 0 0 s (λ i. ap (marks [] 0 s) (add-zero i))
