-- Rewriting between marks keeps what is held well made. Assumes nothing.
--     Name        a pattern that no mark and no digit begins, and that holds no mark
--     Between     a rule that rewrites a name, by what stands before it and behind it, and copies everything else
--     sweep-marks such a sweep leaves every mark, in its order
--     sweep-made  so it keeps what is held well made
use Rattle.std.specs.Prelude.{◌≡◌, Bool, true, false, cond, ◌&&◌, ◌||◌, eqb, length, take, drop, replicate}
use Rattle.std.proofs.Math.Path.{refl, sym, ap, ap₂}
use Rattle.std.proofs.Common.{◌∙◌, arith, take-append-drop, eqb-true}
use Rattle.std.proofs.lemmas.Bool.{false≢true}
use mathlib.Core.List.{List, [], ◌∷◌, ◌++◌}
use Rattle.std.proofs.Math.Option.{Option, none, some}
use Prim.Native.Nat.{ℕ, zero, suc, pred}
use Rattle.std.proofs.Math.Seq.{take-append_seam}
use Rattle.spec.specs.Symbols.{digit, head, starts, text_mark, roman_mark}
use Rattle.spec.specs.Sweep.{Rule, kept, taken, sweep}
use Rattle.spec.specs.Held.{Held, marks, enclosers_of, text_blocks, with_text}
use Rattle.spec.specs.Laws.Booleans.{or-neither}
use Rattle.spec.specs.Laws.Symbols.{starts-split}
use Rattle.held_laws.specs.Marks.{is_mark, has_mark, count}
use Rattle.held_laws.specs.WellMade.{texts_of, WellMade}
use Rattle.held_laws.specs.Enclosed.{enclosers-text, enclosers-roman, enclosers-other}

pub record Name (w : List ℕ) : Type 0 where
  pub start : ℕ
  pub more : List ℕ
  pub split : w ≡ start ∷ more
  pub no_digit : digit start ≡ false
  pub mark-free : has_mark w ≡ false

-- what the rule does where the name stands: `allowed` and `fresh` see the symbols before and behind it
abbrev pub name_rule : List ℕ → (ℕ → ℕ → Bool) → (ℕ → ℕ → List ℕ) → Rule
name_rule name allowed fresh before s =
    let behind = head (drop (length name) s) in
    cond (starts name s && allowed before behind) (taken (length name) (fresh before behind)) (kept s)

-- they treat both marks alike, and write none
pub record Between (rule : Rule) : Type 0 where
  pub name : List ℕ
  pub allowed : ℕ → ℕ → Bool
  pub fresh : ℕ → ℕ → List ℕ
  pub a-name : Name name
  pub same : (before : ℕ) (s : List ℕ) → rule before s ≡ name_rule name allowed fresh before s
  pub plain : (before behind : ℕ) → has_mark (fresh before behind) ≡ false
  pub allowed-before : (behind : ℕ) → allowed roman_mark behind ≡ allowed text_mark behind
  pub allowed-behind : (before : ℕ) → allowed before roman_mark ≡ allowed before text_mark
  pub fresh-before : (behind : ℕ) → fresh roman_mark behind ≡ fresh text_mark behind
  pub fresh-behind : (before : ℕ) → fresh before roman_mark ≡ fresh before text_mark

-- ---- the marks of a text, in their order
unfoldable pub marks_of : List ℕ → List ℕ
marks_of [] = []
marks_of (b ∷ s) = cond (is_mark b) (b ∷ marks_of s) (marks_of s)

marks-append : (x y : List ℕ) → marks_of (x ++ y) ≡ marks_of x ++ marks_of y
unfolding marks_of
marks-append [] y = refl
marks-append (b ∷ x) y = go (is_mark b) (marks-append x y)
  where
    go : (m : Bool) → marks_of (x ++ y) ≡ marks_of x ++ marks_of y → cond m (b ∷ marks_of (x ++ y)) (marks_of (x ++ y)) ≡ cond m (b ∷ marks_of x) (marks_of x) ++ marks_of y
    go true e = ap (λ l. b ∷ l) e
    go false e = e

unmarked-marks : (s : List ℕ) → has_mark s ≡ false → marks_of s ≡ []
unfolding marks_of
unmarked-marks [] e = refl
unmarked-marks (b ∷ s) e = let both = or-neither (is_mark b) (has_mark s) e in rw both.0 (unmarked-marks s both.1)

count-marks : (c : ℕ) → is_mark c ≡ true → (s : List ℕ) → count c (marks_of s) ≡ count c s
unfolding marks_of count
count-marks c mark [] = refl
count-marks c mark (b ∷ s) = go (is_mark b) refl (eqb b c) refl (count-marks c mark s)
  where
    go : (m : Bool) → is_mark b ≡ m → (t : Bool) → eqb b c ≡ t → count c (marks_of s) ≡ count c s → count c (cond m (b ∷ marks_of s) (marks_of s)) ≡ cond t (suc (count c s)) (count c s)
    go true p true q e = rw q (ap suc e)
    go true p false q e = rw q e
    go false p true q e = absurd (false≢true (sym p ∙ ap is_mark (eqb-true b c q) ∙ mark))
    go false p false q e = e

-- what encloses a block is told by the marks alone
enclosers-marks : (s : List ℕ) (romans : List (List ℕ)) (r : ℕ) → enclosers_of r romans (marks_of s) ≡ enclosers_of r romans s
unfolding marks_of enclosers_of
enclosers-marks [] romans r = refl
enclosers-marks (x ∷ s) romans r = go (eqb x text_mark) refl (eqb x roman_mark) refl romans (enclosers-marks s)
  where
    go : (t : Bool) → eqb x text_mark ≡ t → (o : Bool) → eqb x roman_mark ≡ o → (romans : List (List ℕ))
        → ((romans : List (List ℕ)) (r : ℕ) → enclosers_of r romans (marks_of s) ≡ enclosers_of r romans s)
        → enclosers_of r romans (cond (t || o) (x ∷ marks_of s) (marks_of s)) ≡ enclosers_of r romans (x ∷ s)
    go true t o p romans more =
        enclosers-text r x (marks_of s) romans t ∙ ap {B = List (Option ℕ)} (λ l. none ∷ l) (more romans r) ∙ sym (enclosers-text r x s romans t)
    go false t true p [] more = rw (t, enclosers_of, p) (more [] (suc r))
    go false t true p (b ∷ bs) more =
        enclosers-roman r x (marks_of s) b bs t p ∙ ap (λ l. replicate (marks b) (some r) ++ l) (more bs (suc r)) ∙ sym (enclosers-roman r x s b bs t p)
    go false t false p romans more = more romans r ∙ sym (enclosers-other r x s romans t p)

-- ---- a sweep that writes the marks that it takes
module _ (rule : Rule) (even : (before x : ℕ) (s : List ℕ) → marks_of (rule before (x ∷ s)).fresh ≡ marks_of (take (suc (rule before (x ∷ s)).more) (x ∷ s))) where
  sweep-even : (s : List ℕ) (before skip : ℕ) → marks_of (sweep rule before skip s) ≡ marks_of (drop skip s)
  unfolding sweep
  sweep-even [] before zero = refl
  sweep-even [] before (suc skip) = refl
  sweep-even (x ∷ s) before zero =
      let turn = rule before (x ∷ s) in
      marks-append turn.fresh (sweep rule x turn.more s)
      ∙ ap₂ (λ a b. a ++ b) (even before x s) (sweep-even s x turn.more)
      ∙ sym (marks-append (take (suc turn.more) (x ∷ s)) (drop turn.more s))
      ∙ ap marks_of (take-append-drop (suc turn.more) (x ∷ s))
  sweep-even (x ∷ s) before (suc skip) = sweep-even s x skip

-- ---- a rule between marks writes the marks that it takes
module _ {rule : Rule} (between : Between rule) where
  -- neither the name nor what is written for it has a mark
  named-even : (before x : ℕ) (s : List ℕ) → marks_of (rule before (x ∷ s)).fresh ≡ marks_of (take (suc (rule before (x ∷ s)).more) (x ∷ s))
  named-even before x s =
      ap (λ t. marks_of t.fresh) (between.same before (x ∷ s))
      ∙ go (starts between.name (x ∷ s)) refl (between.allowed before behind)
      ∙ sym (ap (λ t. marks_of (take (suc t.more) (x ∷ s))) (between.same before (x ∷ s)))
    where
      behind : ℕ
      behind = head (drop (length between.name) (x ∷ s))

      long : suc (pred (length between.name)) ≡ length between.name
      long = let e = ap length between.a-name.split in omega arith

      go : (t : Bool) → starts between.name (x ∷ s) ≡ t → (u : Bool)
          → (let turn = cond (t && u) (taken (length between.name) (between.fresh before behind)) (kept (x ∷ s)) in
          marks_of turn.fresh ≡ marks_of (take (suc turn.more) (x ∷ s)))
      go true e true =
          unmarked-marks (between.fresh before behind) (between.plain before behind)
          ∙ sym (unmarked-marks between.name between.a-name.mark-free)
          ∙ ap marks_of
          (sym (take-append_seam between.name (drop (length between.name) (x ∷ s)))
          ∙ ap₂ take (sym long) (sym (starts-split between.name (x ∷ s) e)))
      go true e false = refl
      go false e u = refl

  -- every mark stays, in its order
  pub sweep-marks : (s : List ℕ) → marks_of (sweep rule 0 0 s) ≡ marks_of s
  sweep-marks s = sweep-even rule named-even s 0 0

  sweep-count : (c : ℕ) → is_mark c ≡ true → (s : List ℕ) → count c (sweep rule 0 0 s) ≡ count c s
  sweep-count c mark s = sym (count-marks c mark (sweep rule 0 0 s)) ∙ ap (count c) (sweep-marks s) ∙ count-marks c mark s

  pub sweep-made : {h : Held} → WellMade h → WellMade (with_text h (sweep rule 0 0 h.text))
  sweep-made {h} made =
      let t = sweep-count text_mark refl h.text in
      let r = sweep-count roman_mark refl h.text in
      let all = made.text-marks in
      let e = sym (enclosers-marks (sweep rule 0 0 h.text) h.romans 0) ∙ ap (enclosers_of 0 h.romans) (sweep-marks h.text) ∙ enclosers-marks h.text h.romans 0 in
      record { texts = made.texts; romans = made.romans; text-marks = omega arith; roman-marks = r ∙ made.roman-marks; enclosers = made.enclosers ∙ ap (λ es. text_blocks es (texts_of h)) (sym e) }
