-- The denominator: the jump from `\lvert` to `\rvert`, number 9, and the order of its pieces. Assumes nothing.
use Rattle.std.specs.Prelude.{◌≡◌, refl, Bool, true, false, List, [], ◌∷◌, ℕ, ◌+◌, ◌-◌, ◌≤◌, eqb, length, take, drop}
use Rattle.std.proofs.Common.{sym, ap, ◌∙◌, arith, length-drop, drop-drop}
use Rattle.std.proofs.lemmas.Bool.{false≢true}
use Rattle.std.proofs.Math.Option.{Option, none, some}
use Rattle.std.specs.List.{ends_with}
use Rattle.spec.specs.Symbols.{bytes, is, solidus, head, past, any, until, starts, ends, find}
use Rattle.spec.specs.Closing.{find_matching_paren}
use Rattle.spec.specs.Fractions.{word_after, rvert_from, after_lvert, braces, bracket, grouped, after_brackets, after_word, passes_solidus, barred, find_fraction_part_after}
use Rattle.spec.specs.Laws.Symbols.{starts-long, find-starts}
use Rattle.text_search.specs.Search.{Found, Finds, finds-at, finds-nothing}
use Rattle.std.specs.Prelude.{Some, None, MatchOption}
use Rattle.text_symbols.specs.Places.{AheadTo}
use Rattle.slice_laws.specs.Tests.{ends-slice}
use Rattle.text_symbols.specs.Parts.{part}
use Rattle.fraction_operands.specs.Places.{Place, stays, until-ahead}

-- ---- the jump
abbrev behind_rvert : List ℕ → Option (List ℕ) → List ℕ
behind_rvert whole none = whole
behind_rvert whole (some s) = drop 6 s

rvert-found : (s whole : List ℕ) → rvert_from s whole ≡ behind_rvert whole (find (bytes "\\rvert") s)
unfolding find
rvert-found [] whole = refl
rvert-found (x ∷ s) whole = go (starts (bytes "\\rvert") (x ∷ s)) (rvert-found s whole)
  where
    go : (b : Bool) → rvert_from s whole ≡ behind_rvert whole (find (bytes "\\rvert") s)
        → elim b [ true ↦ drop 6 (x ∷ s) | false ↦ rvert_from s whole ] ≡ behind_rvert whole (elim b [ true ↦ some (x ∷ s) | false ↦ find (bytes "\\rvert") s ])
    go true h = refl
    go false h = h

module _ {s : List ℕ} {start : ℕ} {r : Found} (at : Place s start) (found : Finds (drop start s) r (find (bytes "\\rvert") (drop start s))) where
  rvert-at : {k : ℕ} → r ≡ Some k → AheadTo s start (start + k + 6) (rvert_from (drop start s) (drop start s))
  rvert-at {k} e =
      let is = finds-at found e in
      let long = starts-long (bytes "\\rvert") (drop k (drop start s)) (find-starts (bytes "\\rvert") (drop start s) (drop k (drop start s)) is) in
      let a = length-drop k (drop start s) in let b = length-drop start s in let w = at.within in
      record {
        from = omega arith;
        within = omega arith;
        left =
            sym (rvert-found (drop start s) (drop start s) ∙ ap (behind_rvert (drop start s)) is
            ∙ ap (drop 6) (drop-drop k start s) ∙ drop-drop 6 (start + k) s);
      }

  rvert-nowhere : r ≡ None → rvert_from (drop start s) (drop start s) ≡ drop start s
  rvert-nowhere e = rvert-found (drop start s) (drop start s) ∙ ap (behind_rvert (drop start s)) (finds-nothing found e)

pub rvert-answer :
    {s : List ℕ} {start x : ℕ} (r : Found) → Place s start → Finds (drop start s) r (find (bytes "\\rvert") (drop start s))
    → MatchOption r (x ≡ start) (λ k. x ≡ start + k + 6)
    → AheadTo s start x (rvert_from (drop start s) (drop start s))
rvert-answer (Some k) at found e = rw e (rvert-at at found refl)
rvert-answer None at found e = rw e (stays at (rvert-nowhere at found refl))

lvert-jumps : (word s : List ℕ) → ends (bytes "\\lvert") word ≡ true → after_lvert word s ≡ rvert_from s s
lvert-jumps word s t = rw (t, after_lvert)

lvert-none : (word s : List ℕ) → ends (bytes "\\lvert") word ≡ false → after_lvert word s ≡ s
lvert-none word s t = rw (t, after_lvert)

-- the word lies from place `start` to place `word`
module _ (s : List ℕ) (start word : ℕ) (order : start ≤ word) (within : word ≤ length s) {b : Bool} (test : b ≡ ends_with eqb (part start (word - start) s) (bytes "\\lvert")) where
  word-ends : ends (bytes "\\lvert") (until (drop start s) (drop word s)) ≡ b
  word-ends = ap (ends (bytes "\\lvert")) (until-ahead s start word order within) ∙ sym (test ∙ ends-slice (bytes "\\lvert") (part start (word - start) s))

  pub word-jumps : b ≡ true → after_lvert (until (drop start s) (drop word s)) (drop word s) ≡ rvert_from (drop word s) (drop word s)
  word-jumps e = lvert-jumps (until (drop start s) (drop word s)) (drop word s) (word-ends ∙ e)

  pub word-stays : b ≡ false → after_lvert (until (drop start s) (drop word s)) (drop word s) ≡ drop word s
  word-stays e = lvert-none (until (drop start s) (drop word s)) (drop word s) (word-ends ∙ e)

-- ---- number 9: no jump passes nothing
passes-jump : (word s : List ℕ) → passes_solidus word s ≡ any (λ x. eqb x solidus) (until s (after_lvert word s))
passes-jump word s = go (ends (bytes "\\lvert") word) refl
  where
    nothing : any (λ x. eqb x solidus) (until s s) ≡ false
    nothing = let z : length s - length s ≡ 0 = omega arith in ap (λ n. any (λ x. eqb x solidus) (take n s)) z

    go : (b : Bool) → ends (bytes "\\lvert") word ≡ b → passes_solidus word s ≡ any (λ x. eqb x solidus) (until s (after_lvert word s))
    go true e = rw e (ap (λ v. any (λ x. eqb x solidus) (until s v)) (sym (lvert-jumps word s e)))
    go false e = rw e (sym (ap (λ v. any (λ x. eqb x solidus) (until s v)) (lvert-none word s e) ∙ nothing))

pub barred-group : (l : List ℕ) → is "(" (head l) ≡ true → barred l ≡ false
unfolding barred
barred-group l t = rw t

module _ (l w : List ℕ) (bare : is "(" (head l) ≡ false) (word : w ≡ word_after 0 l) where
  pub barred-word : barred l ≡ any (λ x. eqb x solidus) (until w (after_lvert (until l w) w))
  unfolding barred
  barred-word = rw bare (ap (λ v. passes_solidus (until l v) v) (sym word) ∙ passes-jump (until l w) w)

-- ---- the denominator, by its first symbol
pub after-group : (l : List ℕ) → is "(" (head l) ≡ true → find_fraction_part_after l ≡ grouped (find_matching_paren (past l))
unfolding find_fraction_part_after
after-group [] t = absurd (false≢true t)
after-group (x ∷ s) t = rw (t, find_fraction_part_after)

word-is : (l : List ℕ) → is "(" (head l) ≡ false → find_fraction_part_after l ≡ after_word l (word_after 0 l)
unfolding find_fraction_part_after word_after braces
word-is [] t = refl
word-is (x ∷ s) t = rw (t, find_fraction_part_after)

pub after-word : (l w : List ℕ) → is "(" (head l) ≡ false → w ≡ word_after 0 l → find_fraction_part_after l ≡ after_brackets l (bracket (braces 0 (after_lvert (until l w) w)))
after-word l w t word = word-is l t ∙ ap (after_word l) (sym word)
