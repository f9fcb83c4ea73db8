-- Set braces and long scripts on a marked text: every brace of it groups, and every script without braces is one symbol.
use Rattle.std.specs.Prelude.{◌≡◌, Bool, true, false, not, cond, ◌&&◌, ℕ, suc, ◌-◌, eqb, ltb, length, take}
use Rattle.std.proofs.Math.Path.{refl}
use Rattle.std.proofs.Common.{sym, ap, ◌∙◌, true≢false, arith, eqb-true}
use Rattle.std.proofs.Math.Bool.{not-not}
use mathlib.Core.List.{List, [], ◌∷◌, ◌++◌}
use Prim.Native.Char.{code}
use Rattle.spec.specs.Symbols.{bytes, alnum, script_sign, until, drop_while}
use Rattle.spec.specs.Sweep.{kept}
use Rattle.spec.specs.Scripts.{wrap_multichar, wrap_multichar_scripts}
use Rattle.spec.specs.Finish.{groups_behind, top, popped, escape_braces, escape_set_braces}
use Rattle.spec.specs.Laws.Booleans.{and_left, and_right}
use Rattle.plain_printing.specs.Tree.{Tree, marked_style, write}
use Rattle.plain_printing.specs.Classes.{any_of, any-all}
use Rattle.plain_printing.specs.Local.{chain}
use Rattle.plain_printing.specs.Rule.{word_rule, rule}
use Rattle.plain_printing.proofs.LocalTree.{marked-rule}
use Rattle.plain_printing.specs.Sweeps.{Copies, sweep-chain}

-- ---- escape_set_braces
abbrev all_true : List Bool → Bool
all_true [] = true
all_true (b ∷ bs) = b && all_true bs

-- an opening brace stands where one groups
brace-groups : (a prev : ℕ) → rule true a prev (code "{") ≡ true → groups_behind prev ≡ true
brace-groups a prev h = any-all groups_behind (bytes "_^}c") prev refl (sym (not-not (any_of (bytes "_^}c") prev)) ∙ and_left (not (not (any_of (bytes "_^}c") prev))) _ h)

one_of_three : (p q : Bool) (x y z t : List ℕ) → (p ≡ true → x ≡ t) → (q ≡ true → y ≡ t) → z ≡ t
    → elim p as (λ p. List ℕ) [ true ↦ x | false ↦ elim q as (λ q. List ℕ) [ true ↦ y | false ↦ z ] ] ≡ t
one_of_three true q x y z t e f g = e refl
one_of_three false true x y z t e f g = f refl
one_of_three false false x y z t e f g = g

top-true : (bs : List Bool) → all_true bs ≡ true → top bs ≡ true
top-true [] h = refl
top-true (b ∷ bs) h = and_left b (all_true bs) h

popped-true : (bs : List Bool) → all_true bs ≡ true → all_true (popped bs) ≡ true
popped-true [] h = refl
popped-true (b ∷ bs) h = and_right b (all_true bs) h

braces-copy : (bs : List Bool) → all_true bs ≡ true → (a prev : ℕ) (s : List ℕ) → chain (rule true) a prev s ≡ true → escape_braces bs prev s ≡ s
unfolding escape_braces
braces-copy bs h a prev [] k = refl
braces-copy bs h a prev (x ∷ s) k =
    let later : chain (rule true) prev x s ≡ true = and_right (rule true a prev x) (chain (rule true) prev x s) k in
    let here : rule true a prev x ≡ true = and_left (rule true a prev x) (chain (rule true) prev x s) k in
    one_of_three (eqb x (code "{")) (eqb x (code "}")) _ _ _ (x ∷ s)
    (λ e.
    let group : groups_behind prev ≡ true = brace-groups a prev (rw (eqb-true x (code "{") e) at here) in
    rw group (ap {B = List ℕ} (λ l. x ∷ l) (braces-copy (true ∷ bs) h prev x s later)))
    (λ e. rw (top-true bs h) (ap {B = List ℕ} (λ l. x ∷ l) (braces-copy (popped bs) (popped-true bs h) prev x s later)))
    (ap {B = List ℕ} (λ l. x ∷ l) (braces-copy bs h prev x s later))

-- ---- wrap_multichar_scripts
abbrev ident : List ℕ → List ℕ
ident s = until s (drop_while alnum s)

none-taken : (n : ℕ) (s : List ℕ) → length (take (n - n) s) ≡ 0
none-taken n s = let z : n - n ≡ 0 = omega arith in rw z

one-taken : (n y : ℕ) (s : List ℕ) → length (take (suc n - n) (y ∷ s)) ≡ 1
one-taken n y s = let z : suc n - n ≡ 1 = omega arith in rw z

-- a script of one symbol is not long
short-script : (x : ℕ) → script_sign x ≡ true → (prev : ℕ) (s : List ℕ) → chain (rule true) prev x s ≡ true → ltb 1 (length (ident s)) ≡ false
short-script x h prev [] k = refl
short-script x h prev (y ∷ []) k = go (alnum y)
  where
    go : (b : Bool) → ltb 1 (length (until (y ∷ []) (elim b as (λ b. List ℕ) [ true ↦ [] | false ↦ y ∷ [] ]))) ≡ false
    go true = refl
    go false = refl
short-script x h prev (y ∷ z ∷ s) k = go (alnum y) (alnum z) refl refl
  where
    next : rule true x y z ≡ true
    next = and_left (rule true x y z) (chain (rule true) y z s) (and_right (rule true prev x y) _ k)

    go : (p q : Bool) → alnum y ≡ p → alnum z ≡ q
        → ltb 1 (length (until (y ∷ z ∷ s) (elim p as (λ p. List ℕ) [ true ↦ elim q as (λ q. List ℕ) [ true ↦ drop_while alnum s | false ↦ z ∷ s ] | false ↦ y ∷ z ∷ s ]))) ≡ false
    go false q e f = ap (ltb 1) (none-taken (length (y ∷ z ∷ s)) (y ∷ z ∷ s))
    go true false e f = ap (ltb 1) (one-taken (length (z ∷ s)) y (z ∷ s))
    go true true e f =
        let word : word_rule true x y z ≡ true = rw f at next in
        absurd (true≢false (sym (rw (e, h) at (and_left (not (alnum y && script_sign x)) _ word))))

module _ (m : ℕ) (hm : script_sign m ≡ true) where
  multichar-copies : (a before : ℕ) (s : List ℕ) → chain (rule true) a before s ≡ true → Copies (wrap_multichar m) before s
  multichar-copies a before [] k = go (eqb 0 m)
    where
      go : (b : Bool) → let turn = cond (b && false) (record { more = 0; fresh = m ∷ bytes "{" ++ bytes "}" }) (kept []) in turn.fresh ≡ take (suc turn.more) []
      go true = refl
      go false = refl
  multichar-copies a before (x ∷ s) k = rw (short (eqb x m) refl)
    where
      later : chain (rule true) before x s ≡ true
      later = and_right (rule true a before x) (chain (rule true) before x s) k

      short : (b : Bool) → eqb x m ≡ b → eqb x m && ltb 1 (length (ident s)) ≡ false
      short true e = rw e (short-script x (ap script_sign (eqb-true x m e) ∙ hm) before s later)
      short false e = rw e

-- ---- the stages on a tree
module _ (below above : Bool) (n : ℕ) (t : Tree) where
  pub set-braces-copy : escape_set_braces (write (marked_style below above) n t) ≡ write (marked_style below above) n t
  unfolding escape_set_braces
  set-braces-copy = braces-copy [] refl 0 0 (write (marked_style below above) n t) (marked-rule below above n t)

  pub multichar-scripts-copy : (m : ℕ) → script_sign m ≡ true → wrap_multichar_scripts m (write (marked_style below above) n t) ≡ write (marked_style below above) n t
  unfolding wrap_multichar_scripts
  multichar-scripts-copy m hm = sweep-chain (rule true) (wrap_multichar m) (multichar-copies m hm) (write (marked_style below above) n t) (marked-rule below above n t)
