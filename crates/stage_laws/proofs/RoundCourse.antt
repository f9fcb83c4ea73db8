-- The course of a round of fractions: what becomes of each slash, in one relation, so that a law of rounds goes by its cases. Assumes nothing.
--     rewritings    how many slashes of a text a round rewrites
--     Course        the round from a place on: whether it leaves a slash, how many it rewrites, and what it comes to
--     course        every round takes one
use Rattle.std.specs.Prelude.{◌≡◌, refl, Bool, true, false, not, ◌&&◌, ◌||◌, List, [], ◌∷◌, reverse, ℕ, zero, suc, ◌+◌, ◌-◌, ◌≤◌, ltb, length}
use Rattle.std.proofs.Math.Option.{Option, none, some}
use Prim.Native.Char.{code}
use Rattle.std.proofs.Common.{arith, ltb-false, lt-ltb, le-ltb}
use Rattle.spec.specs.Symbols.{is, trim_start}
use Rattle.spec.specs.Fractions.{is_inside_subscript_context, find_fraction_part_after, barred, Done, nothing_done, behind_left, is_left, Step, copied, leaving, fraction_of, with_denominator, with_numerator, slash, fractions_from, convert_regular_fractions}
use Rattle.spec.specs.Laws.Booleans.{or-neither}
use Rattle.stage_laws.specs.LeftSlashes.{left_with, left_at, leaves_from, leaves}
use Rattle.stage_laws.specs.OperandLengths.{Within, nowhere, found, before-within, after-within}

-- a slash is rewritten if the text rewritten last ends behind it then
unfoldable pub rewritings_from : ℕ → Done → List ℕ → List ℕ → List ℕ → ℕ
unfolding slash
rewritings_from skip done p o [] = 0
rewritings_from (suc skip) done p o (x ∷ s) = rewritings_from skip done (x ∷ p) o s
rewritings_from zero done p o (x ∷ s) =
    elim (is "/" x) [
      | true ↦ elim (slash done p o s) [
        | none ↦ 0
        | some t ↦ let later = rewritings_from t.skip t.done (x ∷ p) t.written s in elim (ltb (length p) t.done.rewritten) [ true ↦ suc later | false ↦ later ]
      ]
      | false ↦ rewritings_from 0 done (x ∷ p) (x ∷ o) s
    ]

unfoldable pub rewritings : List ℕ → ℕ
unfolding rewritings_from
rewritings s = rewritings_from 0 nothing_done [] [] s

-- ---- one slash
-- whether it is left, and the step that it makes
data Slashed (done : Done) (p o s : List ℕ) : Bool → Option Step → Type 0 where
  barring : Slashed done p o s false none
  copying : Slashed done p o s false (some (copied done (code "/") o))
  putting-off : (q : List ℕ) → is_left done q ≡ true → Slashed done p o s true (some (copied (leaving done p) (code "/") o))
  rewriting :
      (q r : List ℕ) → done.rewritten ≤ length q → length q ≤ length (trim_start p) → length r ≤ length (trim_start s)
      → Slashed done p o s false (some (fraction_of done p o s q r))

slashed : (done : Done) (p o s : List ℕ) → Slashed done p o s (left_at done p) (slash done p o s)
unfolding slash
slashed done p o s = go (is_inside_subscript_context 0 p) (before-within (trim_start p))
  where
    divided : (q : List ℕ) → done.rewritten ≤ length q → length q ≤ length (trim_start p) → (b : Bool) {d : Option (List ℕ)} → Within (length (trim_start s)) d
        → Slashed done p o s false (elim b as (λ _. Option Step) [ true ↦ none | false ↦ some (with_denominator done p o s q d) ])
    divided q h l true w = barring
    divided q h l false nowhere = copying
    divided q h l false (found r m) = rewriting q r h l m

    kept : (q : List ℕ) → length q ≤ length (trim_start p) → (b : Bool) → is_left done q ≡ b
        → Slashed done p o s b (elim b as (λ _. Option Step) [
          | true ↦ some (copied (leaving done p) (code "/") o)
          | false ↦ elim (barred (trim_start s)) as (λ _. Option Step) [ true ↦ none | false ↦ some (with_denominator done p o s q (find_fraction_part_after (trim_start s))) ]
        ])
    kept q l true e = putting-off q e
    kept q l false e =
        let h = ltb-false (length q) done.rewritten (or-neither (ltb (length q) done.rewritten) (behind_left done.left (trim_start q)) e).0 in
        divided q h l (barred (trim_start s)) (after-within (trim_start s))

    go : (b : Bool) {n : Option (List ℕ)} → Within (length (trim_start p)) n
        → Slashed done p o s (not b && left_with done n) (elim b as (λ _. Option Step) [ true ↦ some (copied done (code "/") o) | false ↦ with_numerator done p o s n ])
    go true w = copying
    go false nowhere = copying
    go false (found q l) = kept q l (is_left done q) refl

-- ---- all of them
-- the round of `fractions_from`, from the place between p and s on
pub data Course : ℕ → Done → List ℕ → List ℕ → List ℕ → Bool → ℕ → Option (List ℕ) → Type 0 where
  ends : {skip : ℕ} {done : Done} {p o : List ℕ} → Course skip done p o [] false 0 (some (reverse o))
  passes : {skip : ℕ} {done : Done} {x : ℕ} {p o s : List ℕ} {b : Bool} {n : ℕ} {u : Option (List ℕ)} → Course skip done (x ∷ p) o s b n u → Course (suc skip) done p o (x ∷ s) b n u
  copies : {done : Done} {x : ℕ} {p o s : List ℕ} {b : Bool} {n : ℕ} {u : Option (List ℕ)} → is "/" x ≡ false → Course 0 done (x ∷ p) (x ∷ o) s b n u → Course 0 done p o (x ∷ s) b n u
  -- number 9
  stops : {done : Done} {x : ℕ} {p o s : List ℕ} → is "/" x ≡ true → Course 0 done p o (x ∷ s) false 0 none
  stays : {done : Done} {x : ℕ} {p o s : List ℕ} {b : Bool} {n : ℕ} {u : Option (List ℕ)} → is "/" x ≡ true → Course 0 done (x ∷ p) (code "/" ∷ o) s b n u → Course 0 done p o (x ∷ s) b n u
  waits :
      {done : Done} {x : ℕ} {p o s : List ℕ} {b : Bool} {n : ℕ} {u : Option (List ℕ)} → is "/" x ≡ true → (q : List ℕ) → is_left done q ≡ true
      → Course 0 (leaving done p) (x ∷ p) (code "/" ∷ o) s b n u
      → Course 0 done p o (x ∷ s) true n u
  -- the numerator lies between q and the slash, the denominator between the slash and r
  turns :
      {done : Done} {x : ℕ} {p o s : List ℕ} {b : Bool} {n : ℕ} {u : Option (List ℕ)} → is "/" x ≡ true
      → (q r : List ℕ) → done.rewritten ≤ length q → length q ≤ length (trim_start p) → length r ≤ length (trim_start s)
      → Course (length s - length r) (fraction_of done p o s q r).done (x ∷ p) (fraction_of done p o s q r).written s b n u
      → Course 0 done p o (x ∷ s) b (suc n) u

course-from : (s : List ℕ) (skip : ℕ) (done : Done) (p o : List ℕ) → done.rewritten ≤ length p + skip → Course skip done p o s (leaves_from skip done p o s) (rewritings_from skip done p o s) (fractions_from skip done p o s)
unfolding leaves_from rewritings_from fractions_from
course-from [] skip done p o h = ends
course-from (x ∷ s) (suc skip) done p o h = passes (course-from s skip done (x ∷ p) o (omega arith))
course-from (x ∷ s) zero done p o h = go (is "/" x) refl (λ t. course-from s t.skip t.done (x ∷ p) t.written)
  where
    Later : Type 0
    Later = (t : Step) → t.done.rewritten ≤ suc (length p) + t.skip
        → Course t.skip t.done (x ∷ p) t.written s
        (leaves_from t.skip t.done (x ∷ p) t.written s)
        (rewritings_from t.skip t.done (x ∷ p) t.written s)
        (fractions_from t.skip t.done (x ∷ p) t.written s)

    at-slash : is "/" x ≡ true → Later → {b : Bool} {u : Option Step} → Slashed done p o s b u
        → Course 0 done p o (x ∷ s)
        (b || elim u as (λ _. Bool) [ none ↦ false | some t ↦ leaves_from t.skip t.done (x ∷ p) t.written s ])
        (elim u as (λ _. ℕ) [
          | none ↦ 0
          | some t ↦ let later = rewritings_from t.skip t.done (x ∷ p) t.written s in elim (ltb (length p) t.done.rewritten) as (λ _. ℕ) [ true ↦ suc later | false ↦ later ]
        ])
        (elim u as (λ _. Option (List ℕ)) [ none ↦ none | some t ↦ fractions_from t.skip t.done (x ∷ p) t.written s ])
    at-slash f later barring = stops f
    at-slash f later copying = rw (le-ltb (length p) done.rewritten (omega arith)) (stays f (later (copied done (code "/") o) (omega arith)))
    at-slash f later (putting-off q e) = rw (le-ltb (length p) done.rewritten (omega arith)) (waits f q e (later (copied (leaving done p) (code "/") o) (omega arith)))
    at-slash f later (rewriting q r a b c) = rw (lt-ltb (length p) (suc (length p) + (length s - length r)) (omega arith)) (turns f q r a b c (later (fraction_of done p o s q r) (omega arith)))

    go : (b : Bool) → is "/" x ≡ b → Later → Course 0 done p o (x ∷ s) (leaves_from 0 done p o (x ∷ s)) (rewritings_from 0 done p o (x ∷ s)) (fractions_from 0 done p o (x ∷ s))
    go true f later = rw (f, leaves_from, rewritings_from, fractions_from) (at-slash f later (slashed done p o s))
    go false f later = rw (f, leaves_from, rewritings_from, fractions_from) (copies f (later (copied done x o) (omega arith)))

pub course : (s : List ℕ) → Course 0 nothing_done [] [] s (leaves s) (rewritings s) (convert_regular_fractions s)
unfolding leaves rewritings convert_regular_fractions
course s = course-from s 0 nothing_done [] [] (omega arith)
