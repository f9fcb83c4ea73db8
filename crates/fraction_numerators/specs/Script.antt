-- The tally of the search for an unmatched parenthesis to the left: it counts one more than the definition. And texts in which no parenthesis opens a
-- script. Assumes nothing.
--     Scripting      the loop of the search has come to place i
--     Scriptless     no place of the text is within a script
use Rattle.std.specs.Prelude.{◌≡◌, Bool, not, ◌&&◌, ◌||◌, eqb, length, get_or, take}
use Rattle.std.proofs.Math.Path.{refl, ap}
use Rattle.std.proofs.Common.{sym, ◌∙◌, subst, sub-one}
use Rattle.std.proofs.Math.Bool.{true, false, and-false}
use mathlib.Core.List.{List, [], ◌∷◌, reverse_aux}
use Prim.Native.Nat.{ℕ, zero, suc, pred, ◌+◌, ◌-◌, ◌≤◌, ◌<◌}
use Prim.Native.Char.{code}
use native.Mathlib.Omega.{arith}
use Rattle.std.proofs.lemmas.Bool.{not-true}
use Rattle.spec.specs.Symbols.{bytes, is, script_sign, head, starts, contains}
use Rattle.spec.specs.Closing.{Side, opens, closes, neither, side_of, depth_after}
use Rattle.spec.specs.Fractions.{script_opener, is_inside_subscript_context}
use Rattle.spec.specs.Laws.Booleans.{and_left, and_right, or-neither}
use Rattle.text_symbols.specs.Places.{before, before-step, before-none}
use Rattle.text_closing.specs.Closing.{started, stepped, opener-kept, closer-kept, depth-stepped, depth-more}
use Rattle.text_closing.specs.declared.Tally.{Tally}

module _ (d x : ℕ) {p : List ℕ} (q : List ℕ) (some-open : 0 < d) (here : p ≡ x ∷ q) where
  -- the depth after the symbol
  abbrev next : ℕ
  next = depth_after (side_of (eqb x (code ")")) (eqb x (code "("))) d

  unmatched : next ≡ 0 → is_inside_subscript_context (d - 1) p ≡ elim (script_opener q) [ true ↦ true | false ↦ is_inside_subscript_context 0 q ]
  unfolding is_inside_subscript_context
  unmatched e = ap (is_inside_subscript_context (d - 1)) here ∙ go (side_of (eqb x (code ")")) (eqb x (code "("))) refl d some-open e
    where
      go : (side : Side) → side_of (eqb x (code ")")) (eqb x (code "(")) ≡ side → (d : ℕ) → 0 < d → depth_after side d ≡ 0
          → is_inside_subscript_context (d - 1) (x ∷ q) ≡ elim (script_opener q) [ true ↦ true | false ↦ is_inside_subscript_context 0 q ]
      go opens f d h e = absurd (omega arith)
      go closes f d h e = ap (λ k. is_inside_subscript_context k (x ∷ q)) (sub-one d ∙ e) ∙ rw (f, is_inside_subscript_context)
      go neither f d h e = absurd (omega arith)

  -- an unmatched parenthesis opens a script, or the search goes on from a fresh tally
  pub script-opens : next ≡ 0 → script_opener q ≡ true → is_inside_subscript_context (d - 1) p ≡ true
  script-opens e t = unmatched e ∙ ap (λ b. elim b [ true ↦ true | false ↦ is_inside_subscript_context 0 q ]) t

  pub script-bare : next ≡ 0 → script_opener q ≡ false → is_inside_subscript_context (d - 1) p ≡ is_inside_subscript_context 0 q
  script-bare e t = unmatched e ∙ ap (λ b. elim b [ true ↦ true | false ↦ is_inside_subscript_context 0 q ]) t

  pub script-past : 0 < next → is_inside_subscript_context (d - 1) p ≡ is_inside_subscript_context (next - 1) q
  unfolding is_inside_subscript_context
  script-past h = ap (is_inside_subscript_context (d - 1)) here ∙ go (side_of (eqb x (code ")")) (eqb x (code "("))) refl d some-open h
    where
      go : (side : Side) → side_of (eqb x (code ")")) (eqb x (code "(")) ≡ side → (d : ℕ) → 0 < d → 0 < depth_after side d → is_inside_subscript_context (d - 1) (x ∷ q) ≡ is_inside_subscript_context (depth_after side d - 1) q
      go opens f d h e = let z : suc d - 1 ≡ suc (d - 1) = omega arith in rw (f, z, is_inside_subscript_context)
      go closes f d h e = let z : d - 1 ≡ suc (pred d - 1) = omega arith in ap (λ k. is_inside_subscript_context k (x ∷ q)) z ∙ rw (f, is_inside_subscript_context)
      go neither f d h e = rw (f, is_inside_subscript_context)

pub script-end : (d : ℕ) {p : List ℕ} → p ≡ [] → is_inside_subscript_context d p ≡ false
unfolding is_inside_subscript_context
script-end d e = ap (is_inside_subscript_context d) e

-- ---- the loop: the search has come to place i, and the symbols before it decide
pub record Scripting (s : List ℕ) (pos : ℕ) (t : Tally) (i : ℕ) : Type 0 where
  pub same-opener : t.opener ≡ code ")"
  pub same-closer : t.closer ≡ code "("
  pub some-open : 0 < t.depth
  pub few-open : t.depth + i ≤ length s + 1
  pub decides : is_inside_subscript_context 0 (before s pos) ≡ is_inside_subscript_context (t.depth - 1) (before s i)

module _ {s : List ℕ} {pos i : ℕ} {t : Tally} (scripting : Scripting s pos t i) where
  pub scripting-end : i ≤ 0 → false ≡ is_inside_subscript_context 0 (before s pos)
  scripting-end h = sym (scripting.decides ∙ script-end (t.depth - 1) (before-none s i h))

  -- the symbol before place i has been tallied
  module _ (some : 0 < i) (within : i ≤ length s) {t' : Tally} (step : t' ≡ stepped t (get_or s (i - 1) 0)) where
    here : before s i ≡ get_or s (i - 1) 0 ∷ before s (i - 1)
    here = before-step s i some within

    depth : t'.depth ≡ depth_after (side_of (eqb (get_or s (i - 1) 0) (code ")")) (eqb (get_or s (i - 1) 0) (code "("))) t.depth
    depth = depth-stepped t (get_or s (i - 1) 0) scripting.same-opener scripting.same-closer step

    module _ (unmatched : t'.depth ≡ 0) {b : Bool} (opener : b ≡ script_opener (before s (i - 1))) where
      pub scripting-opens : b ≡ true → true ≡ is_inside_subscript_context 0 (before s pos)
      scripting-opens e = sym (scripting.decides ∙ script-opens t.depth (get_or s (i - 1) 0) (before s (i - 1)) scripting.some-open here (sym depth ∙ unmatched) (sym opener ∙ e))

      pub scripting-bare : b ≡ false → Scripting s pos (started (code ")") (code "(")) (i - 1)
      scripting-bare e =
          record {
            same-opener = refl;
            same-closer = refl;
            some-open = omega arith;
            few-open = omega arith;
            decides = scripting.decides ∙ script-bare t.depth (get_or s (i - 1) 0) (before s (i - 1)) scripting.some-open here (sym depth ∙ unmatched) (sym opener ∙ e);
          }

    pub scripting-past : 0 < t'.depth → Scripting s pos t' (i - 1)
    scripting-past deep =
        let more = depth-more (code ")") (code "(") t.depth (get_or s (i - 1) 0) (before s (i - 1)) scripting.some-open in
        let few = scripting.few-open in let same = depth in
        record {
          same-opener = opener-kept t (get_or s (i - 1) 0) scripting.same-opener scripting.same-closer step;
          same-closer = closer-kept t (get_or s (i - 1) 0) scripting.same-opener scripting.same-closer step;
          some-open = deep;
          few-open = omega arith;
          decides =
              scripting.decides
              ∙ script-past t.depth (get_or s (i - 1) 0) (before s (i - 1)) scripting.some-open here (subst (λ k. 0 < k) depth deep)
              ∙ ap (λ k. is_inside_subscript_context (k - 1) (before s (i - 1))) (sym depth);
        }

-- ---- a text in which no parenthesis stands behind the sign of a script, seen from behind
abbrev pub groupless : List ℕ → Bool
groupless [] = true
groupless (x ∷ p) = not (is "(" x && script_sign (head p)) && groupless p

opens-none : (p : List ℕ) → groupless p ≡ true → script_sign (head p) ≡ false → script_opener p ≡ false
opens-none [] h e = refl
opens-none (x ∷ p) h e = rw (e, not-true (is "(" x && script_sign (head p)) (and_left (not (is "(" x && script_sign (head p))) (groupless p) h))

outside-groups : (d : ℕ) (p : List ℕ) → groupless p ≡ true → is_inside_subscript_context d p ≡ false
unfolding is_inside_subscript_context
outside-groups d [] h = refl
outside-groups d (x ∷ p) h = go (side_of (eqb x (code ")")) (eqb x (code "("))) refl d (λ k. outside-groups k p later)
  where
    later : groupless p ≡ true
    later = and_right (not (is "(" x && script_sign (head p))) (groupless p) h

    unmarked : is "(" x ≡ true → script_sign (head p) ≡ false
    unmarked e = rw e at (not-true (is "(" x && script_sign (head p)) (and_left (not (is "(" x && script_sign (head p))) (groupless p) h))

    opener : side_of (eqb x (code ")")) (eqb x (code "(")) ≡ closes → is "(" x ≡ true
    opener e = closed (eqb x (code ")")) (eqb x (code "(")) e
      where
        closed : (a b : Bool) → side_of a b ≡ closes → b ≡ true
        closed true b e = cc
        closed false true e = refl
        closed false false e = cc

    go : (side : Side) → side_of (eqb x (code ")")) (eqb x (code "(")) ≡ side → (d : ℕ) → ((k : ℕ) → is_inside_subscript_context k p ≡ false) → is_inside_subscript_context d (x ∷ p) ≡ false
    go opens e d outside = rw (e, is_inside_subscript_context) (outside (suc d))
    go closes e zero outside = rw (e, is_inside_subscript_context, opens-none p later (unmarked (opener e))) (outside 0)
    go closes e (suc d) outside = rw (e, is_inside_subscript_context) (outside d)
    go neither e d outside = rw (e, is_inside_subscript_context) (outside d)

pub record Scriptless (s : List ℕ) : Type 0 where
  pub outside : (i : ℕ) → i ≤ length s → is_inside_subscript_context 0 (before s i) ≡ false

-- ---- neither `_(` nor `^(` occurs
abbrev after_sign : ℕ → List ℕ → Bool
after_sign x s = is "(" (head s) && script_sign x

unmarked : (x : ℕ) (s : List ℕ) → starts (bytes "_(") (x ∷ s) ≡ false → starts (bytes "^(") (x ∷ s) ≡ false → after_sign x s ≡ false
unmarked x [] e f = refl
unmarked x (y ∷ s) e f = go (is "(" y) (is "_" x) (is "^" x) e f
  where
    go : (a b c : Bool) → a && b ≡ false → a && c ≡ false → a && (b || c) ≡ false
    go true b c e f = rw (e, f)
    go false b c e f = refl

-- p stands before s
groups_none : (s p : List ℕ) → contains (bytes "_(") s ≡ false → contains (bytes "^(") s ≡ false → after_sign (head p) s ≡ false → groupless p ≡ true
    → (i : ℕ) → groupless (reverse_aux (take i s) p) ≡ true
groups_none s p e f g h zero = h
groups_none [] p e f g h (suc i) = h
groups_none (x ∷ s) p e f g h (suc i) =
    let low = or-neither (starts (bytes "_(") (x ∷ s)) (contains (bytes "_(") s) e in
    let high = or-neither (starts (bytes "^(") (x ∷ s)) (contains (bytes "^(") s) f in
    groups_none s (x ∷ p) low.1 high.1 (unmarked x s low.0 high.0) (rw (g, h)) i

pub scriptless : (s : List ℕ) → contains (bytes "_(") s || contains (bytes "^(") s ≡ false → Scriptless s
scriptless s e =
    let both = or-neither (contains (bytes "_(") s) (contains (bytes "^(") s) e in
    record { outside = λ i h. outside-groups 0 (before s i) (groups_none s [] both.0 both.1 (and-false (is "(" (head s))) refl i) }
