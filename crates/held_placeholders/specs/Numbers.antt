-- Texts with placeholders for their `\text` marks: names and braces stand in them where they stand in the marked text. Assumes nothing.
--     numbered_from       the `\text` marks of a text, numbered from t
--     number-starts      a name begins in the one where it begins in the other
--     number-unclosed, number-closed    and a closing search finds the same closer
--     numbered-plain ..  the steps of `numbered` and `numbered_romans`
use Rattle.std.specs.Prelude.{◌≡◌, refl, Bool, cond, ◌&&◌, ℕ, zero, suc, ◌+◌, eqb, length, drop}
use Rattle.std.proofs.Math.Path.{sym, ap₂}
use Rattle.std.proofs.Common.{ap, ◌∙◌, add-zero, add-suc, suc-add, arith, eqb-true, ne_eqb}
use Rattle.std.proofs.Math.Bool.{true, false}
use mathlib.Core.List.{List, [], ◌∷◌, ◌++◌, append_assoc}
use Rattle.std.proofs.Math.Option.{Option, none, some, none-ne-some, some-ne-none}
use Prim.Native.Char.{code}
use Rattle.std.proofs.Math.Seq.{drop-append_seam}
use Rattle.std.proofs.lemmas.Bool.{eqb-false}
use Rattle.spec.specs.Symbols.{starts, text_mark, roman_mark}
use Rattle.spec.specs.Closing.{Side, opens, closes, neither, side, side_of, close}
use Rattle.spec.specs.Held.{marks}
use Rattle.spec.specs.Laws.Symbols.{starts-split, starts-unequal}
use Rattle.held_laws.specs.Marks.{count}
use Rattle.held_placeholders.specs.Numbered.{placeholder, numbered, numbered_romans, romans-none}
use Rattle.held_placeholders.specs.Remains.{Narrow, narrow-placeholder}
use Rattle.held_laws.specs.InFull.{returned}
use Rattle.held_laws.specs.TakeOut.{the_text}
use Rattle.held_placeholders.specs.Finding.{Lacks}

abbrev pub numbered_from : ℕ → List ℕ → List ℕ
numbered_from t s = returned text_mark placeholder t s

-- ---- in two parts
pub number_append : (u v : List ℕ) (t : ℕ) → numbered_from t (u ++ v) ≡ numbered_from t u ++ numbered_from (t + count text_mark u) v
unfolding returned count
number_append [] v t = ap (λ n. numbered_from n v) (sym (add-zero t))
number_append (b ∷ u) v t = go (eqb b text_mark) (number_append u v (suc t)) (number_append u v t)
  where
    go : (m : Bool) → numbered_from (suc t) (u ++ v) ≡ numbered_from (suc t) u ++ numbered_from (suc t + count text_mark u) v
        → numbered_from t (u ++ v) ≡ numbered_from t u ++ numbered_from (t + count text_mark u) v
        → cond m (placeholder t ++ numbered_from (suc t) (u ++ v)) (b ∷ numbered_from t (u ++ v))
        ≡ cond m (placeholder t ++ numbered_from (suc t) u) (b ∷ numbered_from t u) ++ numbered_from (t + cond m (suc (count text_mark u)) (count text_mark u)) v
    go true more other =
        ap (λ l. placeholder t ++ l) (more ∙ ap (λ n. numbered_from (suc t) u ++ numbered_from n v) (suc-add t (count text_mark u) ∙ sym (add-suc t (count text_mark u))))
        ∙ sym (append_assoc (placeholder t) (numbered_from (suc t) u) _)
    go false more other = ap (λ l. b ∷ l) other

-- ---- names
lacks-unmarked : (s : List ℕ) (t : ℕ) → Lacks text_mark s → numbered_from t s ≡ s
unfolding returned Lacks
lacks-unmarked [] t h = refl
lacks-unmarked (b ∷ s) t h = rw (ne_eqb b text_mark (λ e. eqb-false text_mark b h.0 (sym e))) (ap (λ l. b ∷ l) (lacks-unmarked s t h.1))

lacks-count : (s : List ℕ) → Lacks text_mark s → count text_mark s ≡ 0
unfolding count Lacks
lacks-count [] h = refl
lacks-count (b ∷ s) h = rw (ne_eqb b text_mark (λ e. eqb-false text_mark b h.0 (sym e))) (lacks-count s h.1)

pub number-starts : (name s : List ℕ) (t : ℕ) → Lacks text_mark name → starts name (numbered_from t s) ≡ starts name s
unfolding returned Lacks placeholder
number-starts [] s t h = refl
number-starts (q ∷ p) [] t h = refl
number-starts (q ∷ p) (b ∷ s) t h = go (eqb b text_mark) refl (number-starts p s t h.1)
  where
    go : (m : Bool) → eqb b text_mark ≡ m → starts p (numbered_from t s) ≡ starts p s → starts (q ∷ p) (cond m (placeholder t ++ numbered_from (suc t) s) (b ∷ numbered_from t s)) ≡ starts p s && eqb b q
    go true e more =
        starts-unequal q text_mark p _ h.0
        ∙ sym (ap (λ c. starts (q ∷ p) (c ∷ s)) (eqb-true b text_mark e) ∙ starts-unequal q text_mark p s h.0)
    go false e more = ap (λ u. u && eqb b q) more

-- behind a name
pub number_behind : (name s : List ℕ) (t : ℕ) → Lacks text_mark name → starts name s ≡ true → drop (length name) (numbered_from t s) ≡ numbered_from t (drop (length name) s)
number_behind name s t lacks met =
    ap (λ l. drop (length name) (numbered_from t l)) (starts-split name s met)
    ∙ ap (drop (length name)) (number_append name (drop (length name) s) t ∙ ap₂ (λ x n. x ++ numbered_from n (drop (length name) s)) (lacks-unmarked name t lacks) (ap (λ n. t + n) (lacks-count name lacks) ∙ add-zero t))
    ∙ drop-append_seam name (numbered_from t (drop (length name) s))

-- ---- closing searches, for braces
abbrev pub close_brace : ℕ → List ℕ → Option (List ℕ)
close_brace d s = close (code "{") (code "}") d s

-- the search behind one symbol
abbrev pub step : Side → ℕ → List ℕ → Option (List ℕ)
step z d s = elim z as (λ _. Option (List ℕ)) [ opens ↦ close_brace (suc d) s | closes ↦ elim d as (λ _. Option (List ℕ)) [ zero ↦ some s | suc e ↦ close_brace e s ] | neither ↦ close_brace d s ]

narrow-close : (x s : List ℕ) (d : ℕ) → Narrow x → close_brace d (x ++ s) ≡ close_brace d s
unfolding close Narrow
narrow-close [] s d h = refl
narrow-close (b ∷ x) s d h =
    let low = h.0 in
    ap₂ (λ p q. step (side_of p q) d (x ++ s)) (ne_eqb b (code "{") (λ e. omega arith)) (ne_eqb b (code "}") (λ e. omega arith))
    ∙ narrow-close x s d h.1

pub placeholder-close : (k : ℕ) (s : List ℕ) (d : ℕ) → close_brace d (placeholder k ++ s) ≡ close_brace d s
placeholder-close k s d = narrow-close (placeholder k) s d (narrow-placeholder k)

-- a mark is no brace
mark-side : (b : ℕ) → eqb b text_mark ≡ true → side (code "{") (code "}") b ≡ neither
mark-side b e = ap (side (code "{") (code "}")) (eqb-true b text_mark e)

-- what a closer leaves over, in the numbered text
pub record Closed (t d : ℕ) (s behind : List ℕ) : Type 0 where
  pub front : List ℕ
  pub split : s ≡ front ++ behind
  pub found : close_brace d (numbered_from t s) ≡ some (numbered_from (t + count text_mark front) behind)

closed-more : (b : ℕ) {t t' d d' : ℕ} {s behind : List ℕ} (c : Closed t' d' s behind)
    → close_brace d (numbered_from t (b ∷ s)) ≡ close_brace d' (numbered_from t' s) → t' + count text_mark c.front ≡ t + count text_mark (b ∷ c.front) → Closed t d (b ∷ s) behind
closed-more b {behind = behind} c e n =
    record {
      front = b ∷ c.front;
      split = ap (λ l. b ∷ l) c.split;
      found = e ∙ c.found ∙ ap (λ m. some (numbered_from m behind)) n;
    }

pub number-unclosed : (s : List ℕ) (t d : ℕ) → close_brace d s ≡ none → close_brace d (numbered_from t s) ≡ none
unfolding close returned
number-unclosed [] t d e = refl
number-unclosed (b ∷ s) t d e = go (eqb b text_mark) refl (number-unclosed s (suc t)) (number-unclosed s t)
  where
    go : (m : Bool) → eqb b text_mark ≡ m → ((d : ℕ) → close_brace d s ≡ none → close_brace d (numbered_from (suc t) s) ≡ none) → ((d : ℕ) → close_brace d s ≡ none → close_brace d (numbered_from t s) ≡ none)
        → close_brace d (cond m (placeholder t ++ numbered_from (suc t) s) (b ∷ numbered_from t s)) ≡ none
    go true m more other = placeholder-close t (numbered_from (suc t) s) d ∙ more d (sym (ap (λ z. step z d s) (mark-side b m)) ∙ e)
    go false m more other = look (side (code "{") (code "}") b) d e
      where
        look : (z : Side) (d : ℕ) → step z d s ≡ none → step z d (numbered_from t s) ≡ none
        look opens d e = other (suc d) e
        look closes zero e = absurd (some-ne-none _ e)
        look closes (suc d) e = other d e
        look neither d e = other d e

pub number-closed : (s : List ℕ) (t d : ℕ) (behind : List ℕ) → close_brace d s ≡ some behind → Closed t d s behind
unfolding close returned count
number-closed [] t d behind e = absurd (none-ne-some _ e)
number-closed (b ∷ s) t d behind e = go (eqb b text_mark) refl (number-closed s (suc t)) (number-closed s t)
  where
    go : (m : Bool) → eqb b text_mark ≡ m → ((d : ℕ) (behind : List ℕ) → close_brace d s ≡ some behind → Closed (suc t) d s behind)
        → ((d : ℕ) (behind : List ℕ) → close_brace d s ≡ some behind → Closed t d s behind) → Closed t d (b ∷ s) behind
    go true m more other =
        let c = more d behind (sym (ap (λ z. step z d s) (mark-side b m)) ∙ e) in
        closed-more b c
        (ap (λ u. close_brace d (cond u (placeholder t ++ numbered_from (suc t) s) (b ∷ numbered_from t s))) m ∙ placeholder-close t (numbered_from (suc t) s) d)
        (suc-add t (count text_mark c.front) ∙ sym (add-suc t (count text_mark c.front)) ∙ ap (λ u. t + cond u (suc (count text_mark c.front)) (count text_mark c.front)) (sym m))
    go false m more other = look (side (code "{") (code "}") b) refl d e
      where
        here : (z : Side) → side (code "{") (code "}") b ≡ z → (d : ℕ) → close_brace d (numbered_from t (b ∷ s)) ≡ step z d (numbered_from t s)
        here z p d = ap (λ u. close_brace d (cond u (placeholder t ++ numbered_from (suc t) s) (b ∷ numbered_from t s))) m ∙ ap (λ z. step z d (numbered_from t s)) p

        same : (front : List ℕ) → t + count text_mark front ≡ t + count text_mark (b ∷ front)
        same front = ap (λ u. t + cond u (suc (count text_mark front)) (count text_mark front)) (sym m)

        look : (z : Side) → side (code "{") (code "}") b ≡ z → (d : ℕ) → step z d s ≡ some behind → Closed t d (b ∷ s) behind
        look opens p d e = let c = other (suc d) behind e in closed-more b c (here opens p d) (same c.front)
        look closes p zero e =
            record {
              front = b ∷ [];
              split = ap (λ l. b ∷ the_text l) e;
              found = here closes p zero ∙ ap₂ (λ n l. some (numbered_from n l)) (sym (add-zero t) ∙ same []) (ap the_text e);
            }
        look closes p (suc d) e = let c = other d behind e in closed-more b c (here closes p (suc d)) (same c.front)
        look neither p d e = let c = other d behind e in closed-more b c (here neither p d) (same c.front)

-- ---- the steps of the spec's numbering
module _ (y : ℕ) (no_text : eqb y text_mark ≡ false) (no-roman : eqb y roman_mark ≡ false) (t : ℕ) (s : List ℕ) where
  pub numbered-plain : (romans : List (List ℕ)) (r : ℕ) → numbered romans t r (y ∷ s) ≡ y ∷ numbered romans t r s
  unfolding numbered
  numbered-plain romans r =
      ap₂ {A = Bool} {B = Bool} {C = List ℕ} (λ m n. elim m as (λ _. List ℕ) [
        | true ↦ placeholder t ++ numbered romans (suc t) r s
        | false ↦ elim n as (λ _. List ℕ) [
          | true ↦ elim romans as (λ _. List ℕ) [ [] ↦ placeholder r ++ numbered [] t (suc r) s | b ∷ bs ↦ placeholder r ++ numbered bs (t + marks b) (suc r) s ]
          | false ↦ y ∷ numbered romans t r s
        ]
      ]) no_text no-roman

  pub romans-plain : (romans : List (List ℕ)) → numbered_romans romans t (y ∷ s) ≡ numbered_romans romans t s
  unfolding numbered_romans
  romans-plain [] = sym (romans-none t s)
  romans-plain (b ∷ bs) =
      ap₂ {A = Bool} {B = Bool} {C = List (List ℕ)} (λ m n. elim m as (λ _. List (List ℕ)) [
        | true ↦ numbered_romans (b ∷ bs) (suc t) s
        | false ↦ elim n as (λ _. List (List ℕ)) [
          | true ↦ numbered [] t 0 b ∷ numbered_romans bs (t + marks b) s
          | false ↦ numbered_romans (b ∷ bs) t s
        ]
      ]) no_text no-roman

pub romans-text : (romans : List (List ℕ)) (t : ℕ) (s : List ℕ) → numbered_romans romans t (text_mark ∷ s) ≡ numbered_romans romans (suc t) s
unfolding numbered_romans
romans-text [] t s = sym (romans-none (suc t) s)
romans-text (b ∷ bs) t s = refl

-- a text with `\text` marks alone
pub numbered-texts : (s : List ℕ) (t r : ℕ) → count roman_mark s ≡ 0 → numbered [] t r s ≡ numbered_from t s
unfolding numbered returned count
numbered-texts [] t r e = refl
numbered-texts (y ∷ s) t r e = go (eqb y text_mark) (eqb y roman_mark) e (numbered-texts s)
  where
    go : (m n : Bool) → cond n (suc (count roman_mark s)) (count roman_mark s) ≡ 0 → ((t r : ℕ) → count roman_mark s ≡ 0 → numbered [] t r s ≡ numbered_from t s)
        → elim m as (λ _. List ℕ) [
          | true ↦ placeholder t ++ numbered [] (suc t) r s
          | false ↦ elim n as (λ _. List ℕ) [ true ↦ placeholder r ++ numbered [] t (suc r) s | false ↦ y ∷ numbered [] t r s ]
        ]
        ≡ cond m (placeholder t ++ numbered_from (suc t) s) (y ∷ numbered_from t s)
    go m true e more = absurd (omega arith)
    go true false e more = ap (λ l. placeholder t ++ l) (more (suc t) r e)
    go false false e more = ap (λ l. y ∷ l) (more t r e)
