-- Line breaks, symbol by symbol: each symbol is written, and a backslash that breaks a line once more.
--     with_breaks         what is written for a text, with the symbol before it
--     lined              the same for its first k symbols
--     lines-with-breaks  it is what the definition's replacement and its last break come to
-- Assumes nothing.
use Rattle.std.specs.Prelude.{◌≡◌, refl, Bool, true, false, cond, ◌&&◌, ◌||◌, ℕ, zero, suc, pred, ◌+◌, ◌≤◌, eqb, length, get_or, take, drop}
use Rattle.std.proofs.Common.{sym, ap, ◌∙◌, arith, length-append, eqb-true}
use Rattle.std.proofs.Math.Bool.{and_comm, or-false}
use Rattle.std.proofs.lemmas.Bool.{false≢true}
use mathlib.Core.List.{List, [], ◌∷◌, ◌++◌, reverse, reverse-reverse, append_assoc, reverse-append, reverse_aux-eq}
use Prim.Native.Char.{code}
use Rattle.std.proofs.Math.Seq.{take-append_seam}
use Rattle.spec.specs.Symbols.{bytes, is, head, empty, starts, ends}
use Rattle.spec.specs.Sweep.{Turn, kept, taken, replacing, sweep, replace}
use Rattle.spec.specs.Finish.{last_break, line_breaks}
use Rattle.spec.specs.Laws.Booleans.{and_parts}

-- before a newline, or at the very end
abbrev pub breaks : ℕ → ℕ → List ℕ → Bool
breaks before x rest = is "\\" x && (is " " before && (is "\n" (head rest) || empty rest))

abbrev pub break_at : List ℕ → ℕ → Bool
break_at s i = breaks (get_or (0 ∷ s) i 0) (get_or s i 0) (drop (i + 1) s)

abbrev pub piece : ℕ → Bool → List ℕ
piece x twice = x ∷ cond twice (x ∷ []) []

unfoldable pub with_breaks : ℕ → List ℕ → List ℕ
with_breaks before [] = []
with_breaks before (x ∷ s) = piece x (breaks before x s) ++ with_breaks x s

unfoldable pub lined : ℕ → ℕ → List ℕ → List ℕ
lined zero before s = []
lined (suc k) before [] = []
lined (suc k) before (x ∷ s) = piece x (breaks before x s) ++ lined k x s

pub lined-all : (before : ℕ) (s : List ℕ) → lined (length s) before s ≡ with_breaks before s
unfolding lined with_breaks
lined-all before [] = refl
lined-all before (x ∷ s) = ap (λ t. piece x (breaks before x s) ++ t) (lined-all x s)

-- ---- the replacement doubles the backslashes before a newline
abbrev in_line : ℕ → ℕ → List ℕ → Bool
in_line before x rest = is "\\" x && (is " " before && is "\n" (head rest))

unfoldable inner : ℕ → List ℕ → List ℕ
inner before [] = []
inner before (x ∷ s) = piece x (in_line before x s) ++ inner x s

abbrev swap : ℕ → List ℕ → List ℕ
swap before s = sweep (replacing (bytes " \\\n") (bytes " \\\\\n")) before 0 s

-- a break does not begin right before s
abbrev Clear : ℕ → List ℕ → Type 0
Clear before s = is " " before && starts (bytes "\\\n") s ≡ false

newline-head : (s : List ℕ) → starts (bytes "\n") s ≡ is "\n" (head s)
newline-head [] = refl
newline-head (x ∷ s) = refl

-- the backslash of a break, with what stands around it
line-starts : (before x : ℕ) (s : List ℕ) → in_line before x s ≡ is " " before && starts (bytes "\\\n") (x ∷ s)
line-starts before x s =
    ap (λ d. is "\\" x && (is " " before && d)) (sym (newline-head s)) ∙ go (is " " before) (is "\\" x) (starts (bytes "\n") s)
  where
    go : (a b c : Bool) → b && (a && c) ≡ a && (c && b)
    go true true c = and_comm true c
    go true false c = and_comm false c
    go false true c = refl
    go false false c = refl

swap_line : (before b : ℕ) (s : List ℕ) → swap (code "\n") s ≡ inner (code "\n") s → swap b (code " " ∷ code "\\" ∷ code "\n" ∷ s) ≡ inner before (code " " ∷ code "\\" ∷ code "\n" ∷ s)
unfolding sweep inner
swap_line before b s e = ap (λ t. (code " ") ∷ code "\\" ∷ code "\\" ∷ code "\n" ∷ t) e

-- what is known of texts that are shorter
abbrev Shorter : ℕ → Type 0
Shorter n = (before b : ℕ) (s : List ℕ) → length s ≤ n → Clear before s → swap b s ≡ inner before s

swap-break :
    (n before b x : ℕ) (s : List ℕ) → length s ≤ n → starts (bytes " \\\n") (x ∷ s) ≡ true → Shorter n → swap b (x ∷ s) ≡ inner before (x ∷ s)
swap-break n before b x [] h e shorter = absurd (false≢true e)
swap-break n before b x (y ∷ []) h e shorter = absurd (false≢true e)
swap-break n before b x (y ∷ z ∷ s) h e shorter =
    let p = and_parts (eqb z (code "\n") && eqb y (code "\\")) (eqb x (code " ")) e in
    let q = and_parts (eqb z (code "\n")) (eqb y (code "\\")) p.0 in
    let l : ◌≡◌ {A = List ℕ} (x ∷ y ∷ z ∷ s) (code " " ∷ code "\\" ∷ code "\n" ∷ s) =
    ap (λ k. k ∷ y ∷ z ∷ s) (eqb-true x (code " ") p.1) ∙ ap (λ k. (code " ") ∷ k ∷ z ∷ s) (eqb-true y (code "\\") q.1) ∙ ap (λ k. (code " ") ∷ code "\\" ∷ k ∷ s) (eqb-true z (code "\n") q.0)
    in
    ap (swap b) l ∙ swap_line before b s (shorter (code "\n") (code "\n") s (omega arith) refl) ∙ sym (ap (inner before) l)

swap-copy :
    (n before b x : ℕ) (s : List ℕ) → length s ≤ n → Clear before (x ∷ s) → starts (bytes " \\\n") (x ∷ s) ≡ false → Shorter n
    → swap b (x ∷ s) ≡ inner before (x ∷ s)
unfolding sweep inner
swap-copy n before b x s h clear e shorter =
    let line : in_line before x s ≡ false = line-starts before x s ∙ clear in
    let next : Clear x s = and_comm (is " " x) (starts (bytes "\\\n") s) ∙ e in
    let rule = replacing (bytes " \\\n") (bytes " \\\\\n") in
    ap (λ (t : Turn). t.fresh ++ sweep rule x t.more s) (ap (λ t. cond t (taken (length (bytes " \\\n")) (bytes " \\\\\n")) (kept (x ∷ s))) e)
    ∙ ap (λ t. x ∷ t) (shorter x x s h next)
    ∙ ap (λ t. piece x t ++ inner x s) (sym line)

swap_inner : (n before b : ℕ) (s : List ℕ) → length s ≤ n → Clear before s → swap b s ≡ inner before s
unfolding sweep inner
swap_inner zero before b [] h clear = refl
swap_inner zero before b (x ∷ s) h clear = absurd (omega arith)
swap_inner (suc n) before b [] h clear = refl
swap_inner (suc n) before b (x ∷ s) h clear = go (starts (bytes " \\\n") (x ∷ s)) refl (swap_inner n)
  where
    go : (t : Bool) → starts (bytes " \\\n") (x ∷ s) ≡ t → Shorter n → swap b (x ∷ s) ≡ inner before (x ∷ s)
    go true e shorter = swap-break n before b x s (omega arith) e shorter
    go false e shorter = swap-copy n before b x s (omega arith) clear e shorter

-- ---- a break at the very end
unfoldable lastly : ℕ → List ℕ → List ℕ
lastly before [] = []
lastly before (x ∷ []) = piece x (is "\\" x && is " " before)
lastly before (x ∷ y ∷ s) = x ∷ lastly x (y ∷ s)

lastly-two : (before y x : ℕ) (u : List ℕ) → lastly before (u ++ y ∷ x ∷ []) ≡ u ++ y ∷ piece x (is "\\" x && is " " y)
unfolding lastly
lastly-two before y x [] = refl
lastly-two before y x (z ∷ []) = refl
lastly-two before y x (z ∷ v ∷ u) = ap (λ t. z ∷ t) (lastly-two z y x (v ∷ u))

last-two : (y x : ℕ) (u : List ℕ) → last_break (u ++ y ∷ x ∷ []) ≡ u ++ y ∷ piece x (is "\\" x && is " " y)
last-two y x u = ap (λ b. cond b (take (pred (length (u ++ y ∷ x ∷ []))) (u ++ y ∷ x ∷ []) ++ bytes "\\\\") (u ++ y ∷ x ∷ [])) ends_is ∙ go (is "\\" x) refl (is " " y)
  where
    ends_is : ends (bytes " \\") (u ++ y ∷ x ∷ []) ≡ is " " y && is "\\" x
    ends_is = ap (starts (code "\\" ∷ code " " ∷ [])) (reverse-append u (y ∷ x ∷ []))

    cut : take (pred (length (u ++ y ∷ x ∷ []))) (u ++ y ∷ x ∷ []) ≡ u ++ y ∷ []
    cut =
        let l = length-append u (y ∷ x ∷ []) in let m = length-append u (y ∷ []) in
        let n : pred (length (u ++ y ∷ x ∷ [])) ≡ length (u ++ y ∷ []) = omega arith in
        ap (λ k. take k (u ++ y ∷ x ∷ [])) n
        ∙ ap (take (length (u ++ y ∷ []))) (sym (append_assoc u (y ∷ []) (x ∷ [])))
        ∙ take-append_seam (u ++ y ∷ []) (x ∷ [])

    go : (a : Bool) → is "\\" x ≡ a → (b : Bool)
        → cond (b && a) (take (pred (length (u ++ y ∷ x ∷ []))) (u ++ y ∷ x ∷ []) ++ bytes "\\\\") (u ++ y ∷ x ∷ []) ≡ u ++ y ∷ piece x (a && b)
    go true e true =
        ap (λ t. t ++ bytes "\\\\") cut ∙ append_assoc u (y ∷ []) (bytes "\\\\")
        ∙ ap (λ k. u ++ y ∷ k ∷ k ∷ []) (sym (eqb-true x (code "\\") e))
    go true e false = refl
    go false e true = refl
    go false e false = refl

last-break : (s : List ℕ) → last_break s ≡ lastly 0 s
unfolding lastly
last-break s = ap last_break (sym (reverse-reverse s)) ∙ go (reverse s) ∙ ap (lastly 0) (reverse-reverse s)
  where
    go : (r : List ℕ) → last_break (reverse r) ≡ lastly 0 (reverse r)
    go [] = refl
    go (x ∷ []) = ap (λ b. piece x b) (sym (and_comm (is "\\" x) false))
    go (x ∷ y ∷ r) =
        ap last_break (reverse_aux-eq r (y ∷ x ∷ [])) ∙ last-two y x (reverse r)
        ∙ sym (ap (lastly 0) (reverse_aux-eq r (y ∷ x ∷ [])) ∙ lastly-two 0 y x (reverse r))

lastly-inner : (before : ℕ) (s : List ℕ) → lastly before (inner before s) ≡ with_breaks before s
unfolding lastly inner with_breaks
lastly-inner before [] = refl
lastly-inner before (x ∷ []) = ap (λ t. lastly before (piece x t ++ [])) (never (is "\\" x) (is " " before)) ∙ go (is "\\" x) (is " " before)
  where
    never : (a b : Bool) → a && (b && false) ≡ false
    never true b = and_comm b false
    never false b = refl

    go : (a b : Bool) → piece x (a && b) ≡ piece x (a && (b && true)) ++ []
    go true true = refl
    go true false = refl
    go false b = refl
lastly-inner before (x ∷ y ∷ s) = go (in_line before x (y ∷ s)) refl (lastly-inner x (y ∷ s))
  where
    ahead : breaks before x (y ∷ s) ≡ in_line before x (y ∷ s)
    ahead = ap (λ d. is "\\" x && (is " " before && d)) (or-false (is "\n" y))

    go : (t : Bool) → in_line before x (y ∷ s) ≡ t → lastly x (inner x (y ∷ s)) ≡ with_breaks x (y ∷ s) → lastly before (inner before (x ∷ y ∷ s)) ≡ with_breaks before (x ∷ y ∷ s)
    go true e rest = ap (λ t. lastly before (piece x t ++ inner x (y ∷ s))) e ∙ ap (λ l. x ∷ x ∷ l) rest ∙ ap (λ t. piece x t ++ with_breaks x (y ∷ s)) (sym (ahead ∙ e))
    go false e rest = ap (λ t. lastly before (piece x t ++ inner x (y ∷ s))) e ∙ ap (λ l. x ∷ l) rest ∙ ap (λ t. piece x t ++ with_breaks x (y ∷ s)) (sym (ahead ∙ e))

pub lines-with-breaks : (s : List ℕ) → line_breaks s ≡ with_breaks 0 s
unfolding replace
lines-with-breaks s = ap last_break (swap_inner (length s) 0 0 s (omega arith) refl) ∙ last-break (inner 0 s) ∙ lastly-inner 0 s
