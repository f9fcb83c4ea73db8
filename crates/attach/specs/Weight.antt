-- Why a text that is rewritten by `attach` never has more than 16,384 symbols on the way. Assumes nothing.
--     weight     a symbol weighs 1, and 2 if it is an `a`, `c` or `h`: so `attach(` weighs 11, and `\underset{` only 10
-- A rewriting takes `attach(`, a comma and `)` away, 13, and brings `\underset{`, `}{` and `}`, 13: no text gets heavier by it, and none is
-- longer than it is heavy.
use Rattle.std.specs.Prelude.{◌≡◌, refl, Bool, true, false, cond, ◌||◌, List, [], ◌∷◌, ◌++◌, ℕ, zero, suc, ◌+◌, ◌-◌, ◌*◌, ◌≤◌, ◌<◌, length, take, drop}
use Rattle.std.proofs.Common.{sym, ap, ◌∙◌, arith, take-append-drop, drop-drop}
use Rattle.spec.specs.Symbols.{bytes, is, starts}
use Rattle.spec.specs.Sweep.{Rule, kept, taken, sweep, replacing, replace}
use Rattle.spec.specs.Laws.Symbols.{starts-long}
use Rattle.text_symbols.specs.Parts.{part}

abbrev pub heavy : ℕ → ℕ
heavy x = cond (is "a" x || (is "c" x || is "h" x)) 2 1

unfoldable pub weight : List ℕ → ℕ
weight [] = 0
weight (x ∷ s) = heavy x + weight s

heavy-bounds : (x : ℕ) → (1 ≤ heavy x) × (heavy x ≤ 2)
heavy-bounds x = go (is "a" x || (is "c" x || is "h" x))
  where
    go : (b : Bool) → (1 ≤ cond b 2 1) × (cond b 2 1 ≤ 2)
    go true = (omega arith, omega arith)
    go false = (omega arith, omega arith)

pub weight-long : (s : List ℕ) → length s ≤ weight s
unfolding weight
weight-long [] = omega arith
weight-long (x ∷ s) = let h = heavy-bounds x in let l = weight-long s in omega arith

pub weight-short : (s : List ℕ) → weight s ≤ 2 * length s
unfolding weight
weight-short [] = omega arith
weight-short (x ∷ s) = let h = heavy-bounds x in let l = weight-short s in omega arith

pub weight-append : (s t : List ℕ) → weight (s ++ t) ≡ weight s + weight t
unfolding weight
weight-append [] t = omega arith
weight-append (x ∷ s) t = let l = weight-append s t in omega arith

-- what lies before a place and what lies behind it
pub weight-split : (n : ℕ) (s : List ℕ) → weight s ≡ weight (take n s) + weight (drop n s)
weight-split n s = ap weight (sym (take-append-drop n s)) ∙ weight-append (take n s) (drop n s)

-- the same of what lies behind place a: its symbols up to place e, and what lies behind that
pub weight-from : (s : List ℕ) (a e : ℕ) → a ≤ e → weight (drop a s) ≡ weight (part a (e - a) s) + weight (drop e s)
weight-from s a e h =
    let n : a + (e - a) ≡ e = omega arith in
    weight-split (e - a) (drop a s) ∙ ap (λ l. weight (part a (e - a) s) + weight l) (drop-drop (e - a) a s ∙ ap (λ k. drop k s) n)

first_weighs : (s : List ℕ) → 0 < length s → weight (drop 1 s) + 1 ≤ weight s
unfolding weight
first_weighs [] h = absurd (omega arith)
first_weighs (y ∷ s) h = let b = heavy-bounds y in omega arith

-- `\,` and `\;` weigh the same
abbrev pub commas : Rule
commas = replacing (bytes "\\,") (bytes "\\;")

replaced-light : (before skip : ℕ) (s : List ℕ) → weight (sweep commas before skip s) ≤ weight (drop skip s)
unfolding weight sweep
replaced-light before skip [] = omega arith
replaced-light before (suc skip) (x ∷ s) = replaced-light x skip s
replaced-light before zero (x ∷ s) = go (starts (bytes "\\,") (x ∷ s)) refl (replaced-light x 1 s) (replaced-light x 0 s)
  where
    go : (b : Bool) → starts (bytes "\\,") (x ∷ s) ≡ b → weight (sweep commas x 1 s) ≤ weight (drop 1 s) → weight (sweep commas x 0 s) ≤ weight s
        → weight ((cond b (taken (length (bytes "\\,")) (bytes "\\;")) (kept (x ∷ s))).fresh ++ sweep commas x (cond b (taken (length (bytes "\\,")) (bytes "\\;")) (kept (x ∷ s))).more s)
        ≤ heavy x + weight s
    go true e one none =
        let l = starts-long (bytes "\\,") (x ∷ s) e in
        let h = heavy-bounds x in let c = first_weighs s (omega arith) in
        omega arith
    go false e one none = omega arith

pub replace-light : (s : List ℕ) → weight (replace (bytes "\\,") (bytes "\\;") s) ≤ weight s
unfolding replace
replace-light s = replaced-light 0 0 s
