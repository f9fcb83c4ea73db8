-- A test that each symbol of a text passes, and rewritings that keep it so. Assumes nothing.
--     Each             each symbol passes the test
--     EachIf           each symbol of a text that may be missing
--     EachPart         each symbol of each of some texts
--     each_within      a text of listed symbols, which all pass
--     each_take, ..    so do those of a part, of a text without its ends, and of two texts together
--     each-sweep       a sweep keeps it, where its rule writes only such symbols
use Rattle.std.specs.Prelude.{◌≡◌, Bool, cond, eqb, length, take, drop}
use Rattle.std.proofs.Common.{ap, ◌∙◌, eqb-true}
use Rattle.std.proofs.Math.Bool.{true, false}
use Rattle.std.proofs.lemmas.Bool.{false≢true}
use mathlib.Core.List.{List, [], ◌∷◌, ◌++◌, reverse, reverse_aux}
use Rattle.std.proofs.Math.Option.{Option, none, some, get_or}
use Prim.Native.Nat.{ℕ, zero, suc}
use Rattle.spec.specs.Laws.Booleans.{and_left, and_right, or_split}
use Rattle.spec.specs.Symbols.{◌and_then◌, all, any, starts, drop_while, drop_while_end, find}
use Rattle.spec.specs.Sweep.{Rule, kept, taken, sweep, replacing, replace}

pub data Each (f : ℕ → Bool) : List ℕ → Type 0 where
  done : Each f []
  more : {x : ℕ} {s : List ℕ} → f x ≡ true → Each f s → Each f (x ∷ s)

pub data EachIf (f : ℕ → Bool) : Option (List ℕ) → Type 0 where
  nowhere : EachIf f none
  there : {s : List ℕ} → Each f s → EachIf f (some s)

pub data EachPart (f : ℕ → Bool) : List (List ℕ) → Type 0 where
  none_left : EachPart f []
  part : {s : List ℕ} {ss : List (List ℕ)} → Each f s → EachPart f ss → EachPart f (s ∷ ss)

-- each symbol of s is one of ks
abbrev pub within : List ℕ → List ℕ → Bool
within ks s = all (λ x. any (eqb x) ks) s

module _ {f : ℕ → Bool} where
  pub each_of : (s : List ℕ) → all f s ≡ true → Each f s
  each_of [] e = done
  each_of (x ∷ s) e = more (and_left (f x) (all f s) e) (each_of s (and_right (f x) (all f s) e))

  one_passes : {s : List ℕ} → Each f s → (y : ℕ) → any (eqb y) s ≡ true → f y ≡ true
  one_passes done y e = absurd (false≢true e)
  one_passes (more {x} {s} h a) y e = or_split (eqb y x) (any (eqb y) s) e (λ q. ap f (eqb-true y x q) ∙ h) (one_passes a y)

  pub each_within : {ks : List ℕ} → Each f ks → (s : List ℕ) → within ks s ≡ true → Each f s
  each_within a [] e = done
  each_within {ks} a (x ∷ s) e = more (one_passes a x (and_left (any (eqb x) ks) (within ks s) e)) (each_within a s (and_right (any (eqb x) ks) (within ks s) e))

  pub each_append : {s t : List ℕ} → Each f s → Each f t → Each f (s ++ t)
  each_append done b = b
  each_append (more e a) b = more e (each_append a b)

  pub each_take : {s : List ℕ} (n : ℕ) → Each f s → Each f (take n s)
  each_take zero a = done
  each_take (suc n) done = done
  each_take (suc n) (more e a) = more e (each_take n a)

  pub each-drop : {s : List ℕ} (n : ℕ) → Each f s → Each f (drop n s)
  each-drop zero a = a
  each-drop (suc n) done = done
  each-drop (suc n) (more e a) = each-drop n a

  pub each-reverse-onto : {s t : List ℕ} → Each f s → Each f t → Each f (reverse_aux s t)
  each-reverse-onto done b = b
  each-reverse-onto (more e a) b = each-reverse-onto a (more e b)

  pub each-reverse : {s : List ℕ} → Each f s → Each f (reverse s)
  each-reverse a = each-reverse-onto a done

  pub each-drop-while : (g : ℕ → Bool) {s : List ℕ} → Each f s → Each f (drop_while g s)
  each-drop-while g done = done
  each-drop-while g (more {x} {s} e a) = go (g x) (each-drop-while g a)
    where
      go : (b : Bool) → Each f (drop_while g s) → Each f (elim b as (λ b. List ℕ) [ true ↦ drop_while g s | false ↦ x ∷ s ])
      go true later = later
      go false later = more e a

  pub each-drop-while-end : (g : ℕ → Bool) {s : List ℕ} → Each f s → Each f (drop_while_end g s)
  each-drop-while-end g a = each-reverse (each-drop-while g (each-reverse a))

  pub each-either : (b : Bool) {s t : List ℕ} → Each f s → Each f t → Each f (cond b s t)
  each-either true a b = a
  each-either false a b = b

  -- ---- searches: what stands from a place on, if there is one
  pub each-then : {o : Option (List ℕ)} (g : List ℕ → Option (List ℕ)) → EachIf f o → ((t : List ℕ) → Each f t → EachIf f (g t)) → EachIf f (o and_then g)
  each-then g nowhere next = nowhere
  each-then g (there {s} a) next = next s a

  pub each-get : {o : Option (List ℕ)} {s : List ℕ} → EachIf f o → Each f s → Each f (get_or o s)
  each-get nowhere b = b
  each-get (there a) b = a

  pub each-find : (w : List ℕ) {s : List ℕ} → Each f s → EachIf f (find w s)
  unfolding find
  each-find w done = nowhere
  each-find w (more {x} {s} e a) = go (starts w (x ∷ s)) (each-find w a)
    where
      go : (b : Bool) → EachIf f (find w s) → EachIf f (elim b as (λ b. Option (List ℕ)) [ true ↦ some (x ∷ s) | false ↦ find w s ])
      go true later = there (more e a)
      go false later = later

-- ---- sweeps
-- a rule that writes only such symbols
pub record WritesOnly (f : ℕ → Bool) (rule : Rule) : Type 0 where
  pub writes : (before : ℕ) (s : List ℕ) → Each f s → Each f (rule before s).fresh

module _ {f : ℕ → Bool} where
  pub each-sweep : {rule : Rule} → WritesOnly f rule → {s : List ℕ} (before skip : ℕ) → Each f s → Each f (sweep rule before skip s)
  unfolding sweep
  each-sweep k before skip done = done
  each-sweep {rule} k before zero (more {x} {s} e a) = each_append (k.writes before (x ∷ s) (more e a)) (each-sweep k x (rule before (x ∷ s)).more a)
  each-sweep k before (suc skip) (more {x} e a) = each-sweep k x skip a

  pub keeps-replacing : (pattern : List ℕ) {fresh : List ℕ} → Each f fresh → WritesOnly f (replacing pattern fresh)
  keeps-replacing pattern {fresh} a = record { writes = λ before s b. go (starts pattern s) b }
    where
      go : (t : Bool) {s : List ℕ} → Each f s → Each f (cond t (taken (length pattern) fresh) (kept s)).fresh
      go true b = a
      go false b = each_take 1 b

  pub each-replace : (pattern : List ℕ) {fresh s : List ℕ} → Each f fresh → Each f s → Each f (replace pattern fresh s)
  unfolding replace
  each-replace pattern a b = each-sweep (keeps-replacing pattern a) 0 0 b
