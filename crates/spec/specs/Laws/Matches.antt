-- Laws of matches.
--     Keeps                  a rule that writes what it takes, wherever a test does not hold
--     sweep-unmatched        it leaves a text as it is in which the test holds nowhere
--     somewhere-contains     the test whether a pattern stands at a place
--     AtPattern              a test that holds only where a pattern stands, so that a search for the pattern finds its places
--     somewhere_from          from place i on
--     unmatched-rearranged   whether one of several definitions matches does not depend on their order
-- Assumes nothing.
use Rattle.std.proofs.Math.Path.{◌≡◌, refl, ap, ap₂}
use Rattle.std.proofs.Common.{◌∙◌, arith, take-append-drop, drop-drop, get_or-drop}
use Rattle.std.specs.Prelude.{Bool, get_or, take}
use Rattle.std.proofs.Math.Bool.{true, false, ◌||◌}
use mathlib.Core.List.{List, [], ◌∷◌, ◌++◌, map}
use Rattle.std.proofs.Math.Option.{Option, none, some}
use Prim.Native.Nat.{ℕ, zero, suc, ◌+◌, ◌<◌}
use Rattle.std.proofs.Math.Numerals.{add-one}
use Rattle.std.proofs.Math.ListN.{length, drop, length-drop}
use Rattle.spec.specs.Symbols.{starts, contains, find}
use Rattle.spec.specs.Sweep.{Rule, sweep}
use Rattle.spec.specs.Table.{Definition, Rearranged, nothing, put}
use Rattle.spec.specs.Matches.{any_match, somewhere, defined_match}
use Rattle.spec.specs.Laws.Booleans.{or-neither}
use Rattle.spec.specs.Laws.Symbols.{drop-step, find-nowhere}

pub record Keeps (test : ℕ → List ℕ → Bool) (rule : Rule) : Type 0 where
  pub writes : (before : ℕ) (s : List ℕ) → test before s ≡ false → (rule before s).fresh ≡ take (suc (rule before s).more) s

pub sweep-unmatched : {test : ℕ → List ℕ → Bool} {rule : Rule} → Keeps test rule → (s : List ℕ) (before : ℕ) → somewhere test before s ≡ false → sweep rule before 0 s ≡ s
unfolding sweep somewhere
sweep-unmatched {test} {rule} keeps s before e = go s before 0 e
  where
    go : (s : List ℕ) (before skip : ℕ) → somewhere test before s ≡ false → sweep rule before skip s ≡ drop skip s
    go [] before zero e = refl
    go [] before (suc skip) e = refl
    go (x ∷ s) before zero e =
        let parts = or-neither (test before (x ∷ s)) (somewhere test x s) e in
        ap₂ {A = List ℕ} ◌++◌ (keeps.writes before (x ∷ s) parts.0) (go s x (rule before (x ∷ s)).more parts.1)
        ∙ take-append-drop (suc (rule before (x ∷ s)).more) (x ∷ s)
    go (x ∷ s) before (suc skip) e = go s x skip (or-neither (test before (x ∷ s)) (somewhere test x s) e).1

-- ---- the same test, written otherwise
pub somewhere-alike :
    {test test' : ℕ → List ℕ → Bool} → ((before : ℕ) (s : List ℕ) → test before s ≡ test' before s) → (before : ℕ) (s : List ℕ)
    → somewhere test before s ≡ somewhere test' before s
unfolding somewhere
somewhere-alike same before [] = refl
somewhere-alike same before (x ∷ s) = ap₂ ◌||◌ (same before (x ∷ s)) (somewhere-alike same x s)

pub somewhere-contains : (pattern : List ℕ) (before : ℕ) (s : List ℕ) → somewhere (λ before t. starts pattern t) before s ≡ contains pattern s
unfolding somewhere
somewhere-contains pattern before [] = refl
somewhere-contains pattern before (x ∷ s) = ap (λ b. starts pattern (x ∷ s) || b) (somewhere-contains pattern x s)

-- ---- a search for the places where a test holds
abbrev pub somewhere_from : (ℕ → List ℕ → Bool) → List ℕ → ℕ → Bool
somewhere_from test s i = somewhere test (get_or (0 ∷ s) i 0) (drop i s)

pub record AtPattern (pattern : List ℕ) (test : ℕ → List ℕ → Bool) : Type 0 where
  pub fails : (before : ℕ) (s : List ℕ) → starts pattern s ≡ false → test before s ≡ false

module _ (test : ℕ → List ℕ → Bool) (s : List ℕ) (i : ℕ) (h : i < length s) where
  step : somewhere_from test s i ≡ (test (get_or (0 ∷ s) i 0) (drop i s) || somewhere_from test s (i + 1))
  unfolding somewhere
  step = rw (drop-step s i h, add-one i)

  pub from-here : test (get_or (0 ∷ s) i 0) (drop i s) ≡ true → somewhere_from test s i ≡ true
  from-here e = step ∙ ap (λ b. b || somewhere_from test s (i + 1)) e

  pub from_past : test (get_or (0 ∷ s) i 0) (drop i s) ≡ false → somewhere_from test s i ≡ somewhere_from test s (i + 1)
  from_past e = step ∙ ap (λ b. b || somewhere_from test s (i + 1)) e

module _ {pattern : List ℕ} {test : ℕ → List ℕ → Bool} (at : AtPattern pattern test) where
  pub somewhere-absent : (s : List ℕ) (before : ℕ) → find pattern s ≡ none → somewhere test before s ≡ false
  unfolding somewhere find
  somewhere-absent [] before e = refl
  somewhere-absent (x ∷ s) before e =
      let here = find-nowhere pattern x s e in
      ap₂ ◌||◌ (at.fails before (x ∷ s) here.0) (somewhere-absent s x here.1)

  -- from the pattern's first place on
  pub somewhere-found :
      (s : List ℕ) (before k : ℕ) → k < length s → find pattern s ≡ some (drop k s)
      → somewhere test before s ≡ somewhere test (get_or (before ∷ s) k 0) (drop k s)
  unfolding somewhere find
  somewhere-found [] before k h e = absurd (omega arith)
  somewhere-found (x ∷ s) before zero h e = refl
  somewhere-found (x ∷ s) before (suc k) h e = go (starts pattern (x ∷ s)) refl e (λ f. somewhere-found s x k (omega arith) f)
    where
      go :
          (t : Bool) → starts pattern (x ∷ s) ≡ t → ◌≡◌ {A = Option (List ℕ)} (elim t [ true ↦ some (x ∷ s) | false ↦ find pattern s ]) (some (drop k s))
          → (find pattern s ≡ some (drop k s) → somewhere test x s ≡ somewhere test (get_or (x ∷ s) k 0) (drop k s))
          → (test before (x ∷ s) || somewhere test x s) ≡ somewhere test (get_or (x ∷ s) k 0) (drop k s)
      go true here e later = let same : x ∷ s ≡ drop k s = cc in let l = ap length same in let d = length-drop k s in absurd (omega arith)
      go false other e later = ap (λ b. b || somewhere test x s) (at.fails before (x ∷ s) other) ∙ later e

-- from place i on, as the code searches
module _ {pattern : List ℕ} {test : ℕ → List ℕ → Bool} (at : AtPattern pattern test) (s : List ℕ) (i : ℕ) where
  pub from-absent : find pattern (drop i s) ≡ none → somewhere_from test s i ≡ false
  from-absent e = somewhere-absent at (drop i s) (get_or (0 ∷ s) i 0) e

  pub from_found : (k : ℕ) → k < length (drop i s) → find pattern (drop i s) ≡ some (drop k (drop i s)) → somewhere_from test s i ≡ somewhere_from test s (i + k)
  from_found k h e =
      somewhere-found at (drop i s) (get_or (0 ∷ s) i 0) k h e
      ∙ ap₂ (somewhere test) (symbol-before s i k) (drop-drop k i s)
    where
      symbol-before : (s : List ℕ) (i k : ℕ) → get_or (get_or (0 ∷ s) i 0 ∷ drop i s) k 0 ≡ get_or (0 ∷ s) (i + k) 0
      symbol-before s i zero = let n : i ≡ i + zero = omega arith in ap (λ m. get_or (0 ∷ s) m 0) n
      symbol-before s i (suc k) = let n : suc (i + k) ≡ i + suc k = omega arith in get_or-drop i s k 0 ∙ ap (λ m. get_or (0 ∷ s) m 0) n

-- ---- definitions in whatever order
unmatched-put :
    (d : Definition) (es fs : List Definition) (s : List ℕ) → defined_match d s ≡ false → any_match (map defined_match (es ++ fs)) s ≡ false
    → any_match (map defined_match (es ++ d ∷ fs)) s ≡ false
unmatched-put d [] fs s one rest = ap₂ ◌||◌ one rest
unmatched-put d (e ∷ es) fs s one rest =
    let parts = or-neither (defined_match e s) (any_match (map defined_match (es ++ fs)) s) rest in
    ap₂ ◌||◌ parts.0 (unmatched-put d es fs s one parts.1)

pub unmatched-rearranged : {ds order : List Definition} → Rearranged ds order → (s : List ℕ) → any_match (map defined_match ds) s ≡ false → any_match (map defined_match order) s ≡ false
unmatched-rearranged nothing s e = e
unmatched-rearranged (put {ds} d es fs r) s e =
    let parts = or-neither (defined_match d s) (any_match (map defined_match ds) s) e in
    unmatched-put d es fs s parts.0 (unmatched-rearranged r s parts.1)
