-- Laws of sweeps.
--     swept          the rest of a sweep, from place i on
--     swept-copied   some symbols are copied, and then the rest of it
--     sweep-same     two rules that agree at every place give the same text
--     sweep-reached  two rules that agree wherever a test does not hold give the same text, unless the sweep comes to a place where it does
--     sweep-absent   a rule that copies wherever its pattern does not start leaves a text without the pattern as it is
--     reached-absent and comes to no place where a test holds that waits for the pattern too
-- Assumes nothing.
use Rattle.std.specs.Prelude.{◌≡◌, refl, Bool, false, ◌||◌, List, [], ◌∷◌, ◌++◌, ℕ, zero, suc, ◌+◌, ◌<◌, ◌≤◌, length, get_or, take, drop}
use Rattle.std.proofs.Common.{sym, ap, ap₂, ◌∙◌, subst, add-zero, add-suc, not-suc-le-zero, arith, length-drop, drop_of_length-le, drop-drop, get_or-drop}
use Rattle.std.proofs.Math.Option.{none}
use Rattle.spec.specs.Symbols.{starts, find}
use Rattle.spec.specs.Sweep.{Turn, Rule, kept, sweep, reached}
use Rattle.spec.specs.Laws.Symbols.{drop-step, find-nowhere}
use Rattle.spec.specs.Laws.Booleans.{or-neither}

unfoldable pub swept : Rule → List ℕ → ℕ → List ℕ
swept rule s i = sweep rule (get_or (0 ∷ s) i 0) 0 (drop i s)

skipped : (rule : Rule) (before skip : ℕ) (s : List ℕ) → sweep rule before skip s ≡ sweep rule (get_or (before ∷ s) skip 0) 0 (drop skip s)
unfolding sweep
skipped rule before zero [] = refl
skipped rule before (suc skip) [] = refl
skipped rule before zero (x ∷ s) = refl
skipped rule before (suc skip) (x ∷ s) = skipped rule x skip s

first-turn :
    (rule : Rule) (before : ℕ) (s : List ℕ) → 0 < length s
    → sweep rule before 0 s ≡ (rule before s).fresh ++ sweep rule (get_or s (rule before s).more 0) 0 (drop (suc (rule before s).more) s)
unfolding sweep
first-turn rule before [] h = absurd (not-suc-le-zero h)
first-turn rule before (x ∷ s) h = ap (λ l. (rule before (x ∷ s)).fresh ++ l) (skipped rule x (rule before (x ∷ s)).more s)

-- one turn at place i
pub swept-turn :
    (rule : Rule) (s : List ℕ) (i : ℕ) → i < length s → {t : Turn} → rule (get_or (0 ∷ s) i 0) (drop i s) ≡ t
    → swept rule s i ≡ t.fresh ++ swept rule s (i + 1 + t.more)
unfolding sweep swept
swept-turn rule s i inside {t} e =
    let next : i + 1 + t.more ≡ suc (i + t.more) = omega arith in
    first-turn rule (get_or (0 ∷ s) i 0) (drop i s) (simp length-drop (omega arith))
    ∙ (rw (e, next, get_or-drop i s t.more 0, drop-drop (suc t.more) i s, add-suc i t.more))

pub swept-end : (rule : Rule) (s : List ℕ) (i : ℕ) → length s ≤ i → swept rule s i ≡ []
unfolding sweep swept
swept-end rule s i h = rw (drop_of_length-le s h)

-- k symbols from place i on are copied
pub swept-copied :
    (rule : Rule) (s : List ℕ) (i k : ℕ) → i + k ≤ length s → ((j : ℕ) → j < k → rule (get_or (0 ∷ s) (i + j) 0) (drop (i + j) s) ≡ kept (drop (i + j) s))
    → swept rule s i ≡ take k (drop i s) ++ swept rule s (i + k)
swept-copied rule s i zero h copies = let n : i ≡ i + zero = omega arith in ap (swept rule s) n
swept-copied rule s i (suc k) h copies =
    let here = subst (λ m. rule (get_or (0 ∷ s) m 0) (drop m s) ≡ kept (drop m s)) (add-zero i) (copies 0 (omega arith)) in
    let one : take 1 (drop i s) ≡ get_or s i 0 ∷ [] = ap (take 1) (drop-step s i (omega arith)) in
    let next : i + 1 + 0 ≡ i + 1 = omega arith in
    let end : i + 1 + k ≡ i + suc k = omega arith in
    swept-turn rule s i (omega arith) here
    ∙ ap₂ ◌++◌ one (ap (swept rule s) next ∙ swept-copied rule s (i + 1) k (omega arith) (λ j l. let n : i + suc j ≡ i + 1 + j = omega arith in subst (λ m. rule (get_or (0 ∷ s) m 0) (drop m s) ≡ kept (drop m s)) n (copies (suc j) (omega arith))))
    ∙ ap₂ (λ l m. l ++ swept rule s m) (ap (λ t. take (suc k) t) (sym (drop-step s i (omega arith)))) end

pub sweep-same :
    (r r' : Rule) (n : ℕ) → ((before : ℕ) (s : List ℕ) → length s ≤ n → r before s ≡ r' before s)
    → (s : List ℕ) (before skip : ℕ) → length s ≤ n → sweep r before skip s ≡ sweep r' before skip s
unfolding sweep
sweep-same r r' n same [] before skip h = refl
sweep-same r r' n same (x ∷ s) before zero h =
    ap₂ (λ (t : Turn) (rest : List ℕ). t.fresh ++ rest) (same before (x ∷ s) h) (sweep-same r r' n same s x (r before (x ∷ s)).more (omega arith))
    ∙ ap (λ (t : Turn). (r' before (x ∷ s)).fresh ++ sweep r' x t.more s) (same before (x ∷ s) h)
sweep-same r r' n same (x ∷ s) before (suc skip) h = sweep-same r r' n same s x skip (omega arith)

pub sweep-reached :
    (test : List ℕ → Bool) (r r' : Rule) → ((before : ℕ) (s : List ℕ) → test s ≡ false → r before s ≡ r' before s)
    → (s : List ℕ) (before skip : ℕ) → reached test r before skip s ≡ false → sweep r before skip s ≡ sweep r' before skip s
unfolding sweep reached
sweep-reached test r r' same [] before skip e = refl
sweep-reached test r r' same (x ∷ s) before zero e =
    let both = or-neither (test (x ∷ s)) (reached test r x (r before (x ∷ s)).more s) e in
    let here = same before (x ∷ s) both.0 in
    ap₂ (λ (t : Turn) (rest : List ℕ). t.fresh ++ rest) here (sweep-reached test r r' same s x (r before (x ∷ s)).more both.1)
    ∙ ap (λ (t : Turn). (r' before (x ∷ s)).fresh ++ sweep r' x t.more s) here
sweep-reached test r r' same (x ∷ s) before (suc skip) e = sweep-reached test r r' same s x skip e

-- the rule copies wherever the pattern does not start
pub record Waits (pattern : List ℕ) (rule : Rule) : Type 0 where
  pub copies : (before : ℕ) (s : List ℕ) → starts pattern s ≡ false → rule before s ≡ kept s

pub sweep-absent : {pattern : List ℕ} {rule : Rule} → Waits pattern rule → (s : List ℕ) (before : ℕ) → find pattern s ≡ none → sweep rule before 0 s ≡ s
unfolding sweep find
sweep-absent waits [] before e = refl
sweep-absent {pattern} {rule} waits (x ∷ s) before e =
    let here = find-nowhere pattern x s e in
    ap (λ (t : Turn). t.fresh ++ sweep rule x t.more s) (waits.copies before (x ∷ s) here.0) ∙ ap (λ l. x ∷ l) (sweep-absent waits s x here.1)

-- a test that does not hold where the pattern does not stand is never met
pub reached-absent :
    {pattern : List ℕ} {rule : Rule} (test : List ℕ → Bool) → Waits pattern rule → ((s : List ℕ) → starts pattern s ≡ false → test s ≡ false)
    → (s : List ℕ) (before : ℕ) → find pattern s ≡ none → reached test rule before 0 s ≡ false
unfolding reached find
reached-absent test waits fails [] before e = refl
reached-absent {pattern} {rule} test waits fails (x ∷ s) before e =
    let here = find-nowhere pattern x s e in
    ap₂ (λ (a : Bool) (t : Turn). a || reached test rule x t.more s) (fails (x ∷ s) here.0) (waits.copies before (x ∷ s) here.0)
    ∙ reached-absent test waits fails s x here.1
