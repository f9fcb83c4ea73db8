-- Thin spaces: what the code's searches say of the text since the last one, and the turns of the loop.
--     thinned    what is written from place i on, with the last thin space before `start`
-- Assumes nothing.
use Rattle.std.specs.Prelude.{◌≡◌, refl, Bool, true, false, not, cond, ◌&&◌, ◌||◌, ℕ, zero, suc, ◌+◌, ◌-◌, ◌≤◌, ◌<◌, eqb, ltb, length, take}
use Rattle.std.proofs.Common.{sym, subst, ap₂, ◌∙◌, not-suc-le-zero, length-take, drop_of_length-le, get_or-drop, lt-ltb}
use Rattle.std.proofs.Math.Path.{ap}
use Rattle.std.specs.List.{list_any}
use lib.Pointwise.{pointwise}
use mathlib.Core.List.{List, [], ◌∷◌, ◌++◌, reverse, reverse-reverse}
use native.Mathlib.Omega.{arith}
use Rattle.std.proofs.Math.ListN.{get_or, drop, length-drop}
use Rattle.std.proofs.lemmas.List.{length-reverse}
use Rattle.spec.specs.Symbols.{bytes, is, letter, head, empty, until, drop_while, starts}
use Rattle.spec.specs.Finish.{atom_commands, one_of, spacing_command, spacing, gap_from, gap, thin_spaces, drop_thin_space_after_commands}
use Rattle.spec.specs.Laws.Symbols.{drop-step, starts-long, reverse-drop}
use Rattle.slice_laws.specs.Tests.{pointwise-same}
use Rattle.text_symbols.specs.Parts.{part, length_part, rest_part, sub_part}
use Rattle.text_symbols.specs.Places.{before, before-all, before-step, length_before, AheadTo, BackTo, before-next}
use Rattle.text_search.specs.Search.{until-drop}
use Rattle.text.specs.declared.writer.Writer.{Writer}
use Rattle.text.specs.Writer.{Regions, Appended, appended-part, appended-long}
use Rattle.text.specs.Sweep.{rest_from}
use Rattle.text.specs.Filling.{Filling, filling-none, filling-all, filling-more, filling-symbol}

-- ---- a command that sets an atom
pub listed-same : (l : List (List ℕ)) (w : List ℕ) → list_any (λ x. pointwise eqb x w) l ≡ one_of l w
listed-same [] w = refl
listed-same (x ∷ l) w = ap₂ ◌||◌ (pointwise-same x w) (listed-same l w)

-- ---- a command with its own spacing
abbrev pub is_argument : List ℕ → Bool
is_argument tail = empty tail || (is "{" (head tail) && is "}" (head (reverse tail)))

word_some : (s : List ℕ) (end : ℕ) → end ≤ length s → not (empty (take end s)) ≡ ltb 0 end
word_some s zero h = refl
word_some [] (suc end) h = absurd (not-suc-le-zero h)
word_some (x ∷ s) (suc end) h = sym (lt-ltb 0 (suc end) (omega arith))

pub spacing-is : {s : List ℕ} {end : ℕ} → AheadTo s 0 end (drop_while letter s) → ltb 0 end && (is_argument (drop end s) && not (one_of atom_commands (take end s))) ≡ spacing s
spacing-is {s} {end} l =
    let word : until s (drop_while letter s) ≡ take end s = ap (until s) (sym l.left) ∙ until-drop s end l.within in
    sym (ap₂ spacing_command word (sym l.left) ∙ ap (λ b. b && (is_argument (drop end s) && not (one_of atom_commands (take end s)))) (word_some s end l.within))

-- ---- the space that is kept or dropped
abbrev pub gap_if : Bool → List ℕ
gap_if keeps = cond keeps (bytes "\\;") []

-- the place behind the last backslash, or the start
module _ {s : List ℕ} {r : ℕ} (last : BackTo s (length s) r (drop_while (λ x. not (is "\\" x)) (before s (length s)))) where
  back : drop_while (λ x. not (is "\\" x)) (reverse s) ≡ before s r
  back = ap (drop_while (λ x. not (is "\\" x))) (sym (before-all s)) ∙ sym last.left

  pub gap-found : 0 < r → gap (reverse s) ≡ gap_if (not (spacing (drop r s)))
  gap-found positive =
      let w = last.to in
      let here = before-step s r positive w in
      let lr = length-reverse s in let lb = length_before s r w in let lh = ap length here in
      let many : length (reverse s) - length (get_or s (r - 1) 0 ∷ before s (r - 1)) ≡ length s - r = omega arith in
      ap (gap_from (reverse s)) (back ∙ here)
      ∙ ap (λ t. cond (spacing (reverse t)) [] (bytes "\\;")) (ap (λ m. take m (reverse s)) many ∙ sym (reverse-drop r s))
      ∙ ap (λ t. cond (spacing t) [] (bytes "\\;")) (reverse-reverse (drop r s))
      ∙ turned (spacing (drop r s))
    where
      turned : (b : Bool) → cond b [] (bytes "\\;") ≡ gap_if (not b)
      turned true = refl
      turned false = refl

-- ---- the loop
unfoldable pub thinned : List ℕ → ℕ → ℕ → List ℕ
thinned s start i = thin_spaces 0 (reverse (part start (i - start) s)) (drop i s)

pub thinned-first : (s : List ℕ) → thinned s 0 0 ≡ drop_thin_space_after_commands s
unfolding thinned drop_thin_space_after_commands
thinned-first s = refl

pub thinned-end : (s : List ℕ) (start i : ℕ) → length s ≤ i → thinned s start i ≡ []
unfolding thinned thin_spaces
thinned-end s start i h = ap (thin_spaces 0 (reverse (part start (i - start) s))) (drop_of_length-le s h)

thin-gap : (p : List ℕ) (x y : ℕ) (s : List ℕ) → starts (bytes "\\;") (x ∷ y ∷ s) ≡ true → thin_spaces 0 p (x ∷ y ∷ s) ≡ gap p ++ thin_spaces 0 [] s
unfolding thin_spaces
thin-gap p x y s e = rw (e, thin_spaces)

thin-symbol : (p : List ℕ) (x : ℕ) (s : List ℕ) → starts (bytes "\\;") (x ∷ s) ≡ false → thin_spaces 0 p (x ∷ s) ≡ x ∷ thin_spaces 0 (x ∷ p) s
unfolding thin_spaces
thin-symbol p x s e = rw (e, thin_spaces)

module _ (s : List ℕ) (start i : ℕ) (order : start ≤ i) (within : i < length s) where
  pub thinned-gap : starts (bytes "\\;") (drop i s) ≡ true → thinned s start i ≡ gap (reverse (part start (i - start) s)) ++ thinned s (i + 2) (i + 2)
  unfolding thinned
  thinned-gap e =
      let l = starts-long (bytes "\\;") (drop i s) e in let d = length-drop i s in
      let two : drop i s ≡ get_or s i 0 ∷ get_or s (i + 1) 0 ∷ drop (i + 1 + 1) s = drop-step s i within ∙ ap (λ t. get_or s i 0 ∷ t) (drop-step s (i + 1) (omega arith)) in
      let n : i + 1 + 1 ≡ i + 2 = omega arith in
      let z : i + 2 - (i + 2) ≡ 0 = omega arith in
      let p = reverse (part start (i - start) s) in
      ap (thin_spaces 0 p) two
      ∙ thin-gap p (get_or s i 0) (get_or s (i + 1) 0) (drop (i + 1 + 1) s) (ap (starts (bytes "\\;")) (sym two) ∙ e)
      ∙ ap (λ k. gap p ++ thin_spaces 0 [] (drop k s)) n
      ∙ ap (λ k. gap p ++ thin_spaces 0 (reverse (part (i + 2) k s)) (drop (i + 2) s)) (sym z)

  pub thinned-symbol : starts (bytes "\\;") (drop i s) ≡ false → thinned s start i ≡ get_or s i 0 ∷ thinned s start (i + 1)
  unfolding thinned
  thinned-symbol e =
      let p = reverse (part start (i - start) s) in
      let d = length-drop start s in
      let n : i + 1 - start ≡ i - start + 1 = omega arith in
      let m : start + (i - start) ≡ i = omega arith in
      let one : reverse (part start (i + 1 - start) s) ≡ get_or s i 0 ∷ p =
      ap (λ k. reverse (part start k s)) n ∙ before-next (drop start s) (i - start) (omega arith)
      ∙ ap (λ x. x ∷ p) (get_or-drop start s (i - start) 0 ∙ ap (λ k. get_or s k 0) m)
      in
      ap (thin_spaces 0 p) (drop-step s i within)
      ∙ thin-symbol p (get_or s i 0) (drop (i + 1) s) (ap (starts (bytes "\\;")) (sym (drop-step s i within)) ∙ e)
      ∙ ap (λ q. get_or s i 0 ∷ thin_spaces 0 q (drop (i + 1) s)) (sym one)

pub gap-few : (keeps : Bool) → length (gap_if keeps) ≤ 2
gap-few true = omega arith
gap-few false = omega arith

-- ---- the loop stands at place i, with the last thin space before `start`
pub record Thinning (w₀ w : List ℕ) (from n : ℕ) (o₀ o : Writer) (start i : ℕ) : Type 0 where
  pub long : length w ≡ length w₀
  pub within : i ≤ n
  pub order : start ≤ i
  pub few : o.count ≤ o₀.count + i
  pub filling : Filling w₀ w o₀ o (thinned (part from n w₀) start i) (drop_thin_space_after_commands (part from n w₀))

pub thinning-none : (w : List ℕ) (from n : ℕ) (o : Writer) → Thinning w w from n o o 0 0
thinning-none w from n o =
    let s = part from n w in
    record {
      long = refl;
      within = omega arith;
      order = omega arith;
      few = omega arith;
      filling = subst (λ r. Filling w w o o r (drop_thin_space_after_commands s)) (sym (thinned-first s)) (filling-none w o (drop_thin_space_after_commands s));
    }

pub thinning-all :
    {w₀ w : List ℕ} {from n : ℕ} {o₀ o : Writer} {start i : ℕ} → Regions w₀ from n o₀ → Thinning w₀ w from n o₀ o start i → n ≤ i
    → Appended w₀ w o₀ o (drop_thin_space_after_commands (part from n w₀))
thinning-all {w₀} {from = from} {n} {start = start} {i} regions t done =
    let g = length_part from n w₀ regions.source in filling-all t.filling (thinned-end (part from n w₀) start i (omega arith))

-- a turn of the loop
module _
    {w₀ w : List ℕ} {from n : ℕ} {o₀ o : Writer} {start i : ℕ}
    (regions : Regions w₀ from n o₀) (thinning : Thinning w₀ w from n o₀ o start i) (more : i < n)
  where
    inside-i : i < length (part from n w₀)
    inside-i = let l = length_part from n w₀ regions.source in omega arith

    here : rest_from from n i w ≡ drop i (part from n w₀)
    here = rest_part from n i w ∙ ap (drop i) (appended-part thinning.filling.appended from n regions.apart)

    module _ {b : Bool} (test : b ≡ starts (bytes "\\;") (rest_from from n i w)) where
      pub gap-fits : b ≡ true → i + 2 ≤ n
      gap-fits t =
          let l = starts-long (bytes "\\;") (rest_from from n i w) (sym test ∙ t) in
          let m = length-take (from + n - (from + i)) (drop (from + i) w) in
          omega arith

      pub gap_more :
          (keeps : Bool) {w' : List ℕ} {o' : Writer} → b ≡ true → gap (reverse (part (from + start) (from + i - (from + start)) w)) ≡ gap_if keeps
          → Appended w w' o o' (gap_if keeps)
          → Thinning w₀ w' from n o₀ o' (i + 2) (i + 2)
      gap_more keeps t e a =
          let ordered = thinning.order in
          let m : from + i - (from + start) ≡ i - start = omega arith in
          let since : part (from + start) (from + i - (from + start)) w ≡ part start (i - start) (part from n w₀) =
          ap (λ k. part (from + start) k w) m ∙ sub_part from n start (i - start) w (omega arith)
          ∙ ap (λ s. part start (i - start) s) (appended-part thinning.filling.appended from n regions.apart)
          in
          let k = a.counted in let few = gap-few keeps in let c = thinning.few in
          record {
            long = appended-long a ∙ thinning.long;
            within = gap-fits t;
            order = omega arith;
            few = omega arith;
            filling = filling-more thinning.filling a
                (thinned-gap (part from n w₀) start i thinning.order inside-i (ap (starts (bytes "\\;")) (sym here) ∙ sym test ∙ t)
                ∙ ap (λ g. g ++ thinned (part from n w₀) (i + 2) (i + 2)) (ap (λ s. gap (reverse s)) (sym since) ∙ e));
          }

      pub symbol-more : {w' : List ℕ} {o' : Writer} → b ≡ false → Appended w w' o o' (get_or w (from + i) 0 ∷ []) → Thinning w₀ w' from n o₀ o' start (i + 1)
      symbol-more t a =
          let k = a.counted in let c = thinning.few in let ordered = thinning.order in
          record {
            long = appended-long a ∙ thinning.long;
            within = omega arith;
            order = omega arith;
            few = omega arith;
            filling = filling-more thinning.filling a
                (thinned-symbol (part from n w₀) start i thinning.order inside-i (ap (starts (bytes "\\;")) (sym here) ∙ sym test ∙ t)
                ∙ ap (λ x. x ∷ thinned (part from n w₀) start (i + 1)) (sym (filling-symbol thinning.filling from n regions.apart i more)));
          }
