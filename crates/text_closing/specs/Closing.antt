-- The tally of a closing search: how it goes with the definition `close`, which counts one bracket less. Assumes nothing.
--     started, stepped    a tally with one bracket open, and the tally after a symbol
--     close_from           the search that a tally stands for
--     Tallied             the loop of a closing search has come to place i
use Rattle.std.specs.Prelude.{◌≡◌, List, [], ◌∷◌, eqb, length, get_or, drop}
use Rattle.std.proofs.Math.Path.{refl, ap}
use Rattle.std.proofs.Common.{sym, ◌∙◌, subst, not-suc-le-zero, sub-one, length-drop, drop_of_length-le}
use Rattle.std.proofs.Math.Option.{Option, none, some}
use Prim.Native.Nat.{ℕ, zero, suc, pred, ◌+◌, ◌-◌, ◌<◌, ◌≤◌}
use native.Mathlib.Omega.{arith}
use Rattle.spec.specs.Closing.{Side, opens, closes, neither, side_of, depth_after, close, matching_delimiter}
use Rattle.spec.specs.Laws.Symbols.{drop-step, past-drop}
use Rattle.text_search.specs.Half.{half_work}
use Rattle.text_search.specs.Search.{Closes}
use Rattle.std.specs.Prelude.{Some, None}
use Rattle.text_closing.specs.declared.Tally.{Tally}

abbrev pub started : ℕ → ℕ → Tally
started opener closer = record { opener = opener; closer = closer; depth = 1 }

abbrev pub stepped : Tally → ℕ → Tally
stepped t x =
    record {
      opener = t.opener;
      closer = t.closer;
      depth = depth_after (side_of (eqb x t.opener) (eqb x t.closer)) t.depth;
    }

-- what the tally after a symbol says
module _ (t : Tally) (x : ℕ) {o c : ℕ} {t' : Tally} (same-opener : t.opener ≡ o) (same-closer : t.closer ≡ c) (step : t' ≡ stepped t x) where
  pub opener-kept : t'.opener ≡ o
  opener-kept = ap (λ k. k.opener) step ∙ same-opener

  pub closer-kept : t'.closer ≡ c
  closer-kept = ap (λ k. k.closer) step ∙ same-closer

  pub depth-stepped : t'.depth ≡ depth_after (side_of (eqb x o) (eqb x c)) t.depth
  depth-stepped = ap (λ k. k.depth) step ∙ rw (same-opener, same-closer)

-- d brackets are open
abbrev pub close_from : ℕ → ℕ → ℕ → List ℕ → Option (List ℕ)
close_from o c d s = close o c (d - 1) s

module _ (o c d x : ℕ) (s : List ℕ) (some-open : 0 < d) where
  -- the depth after the symbol
  abbrev next : ℕ
  next = depth_after (side_of (eqb x o) (eqb x c)) d

  pub close-here : next ≡ 0 → close_from o c d (x ∷ s) ≡ some s
  unfolding close
  close-here e = go (side_of (eqb x o) (eqb x c)) refl d some-open e
    where
      go : (side : Side) → side_of (eqb x o) (eqb x c) ≡ side → (d : ℕ) → 0 < d → depth_after side d ≡ 0 → close o c (d - 1) (x ∷ s) ≡ some s
      go opens f d h e = absurd (omega arith)
      go closes f d h e = ap (λ k. close o c k (x ∷ s)) (sub-one d ∙ e) ∙ rw (f, close)
      go neither f d h e = absurd (omega arith)

  pub close-past : 0 < next → close_from o c d (x ∷ s) ≡ close_from o c next s
  unfolding close
  close-past h = go (side_of (eqb x o) (eqb x c)) refl d some-open h
    where
      go : (side : Side) → side_of (eqb x o) (eqb x c) ≡ side → (d : ℕ) → 0 < d → 0 < depth_after side d → close o c (d - 1) (x ∷ s) ≡ close o c (depth_after side d - 1) s
      go opens f d h e = let z : suc d - 1 ≡ suc (d - 1) = omega arith in rw (f, z, close)
      go closes f d h e = let z : d - 1 ≡ suc (pred d - 1) = omega arith in ap (λ k. close o c k (x ∷ s)) z ∙ rw (f, close)
      go neither f d h e = rw (f, close)

  -- a symbol goes one deeper at the most
  pub depth-more : next ≤ d + 1
  depth-more = go (side_of (eqb x o) (eqb x c))
    where
      go : (side : Side) → depth_after side d ≤ d + 1
      go opens = omega arith
      go closes = let h : pred d ≤ d + 1 = omega arith in h
      go neither = omega arith

-- as many brackets as symbols are left can't all be closed but one
pub close_deep : (o c d : ℕ) (s : List ℕ) → length s ≤ d → close o c d s ≡ none
unfolding close
close_deep o c d [] h = refl
close_deep o c d (x ∷ s) h = go (side_of (eqb x o) (eqb x c)) d h (λ k. close_deep o c k s)
  where
    go : (side : Side) (d : ℕ) → suc (length s) ≤ d → ((k : ℕ) → length s ≤ k → close o c k s ≡ none)
        → ◌≡◌ {A = Option (List ℕ)} (elim side [ opens ↦ close o c (suc d) s | closes ↦ elim d [ zero ↦ some s | suc e ↦ close o c e s ] | neither ↦ close o c d s ]) none
    go opens d h deep = deep (suc d) (omega arith)
    go closes zero h deep = absurd (not-suc-le-zero h)
    go closes (suc e) h deep = deep e (omega arith)
    go neither d h deep = deep d (omega arith)

pub close-end : (o c d : ℕ) (s : List ℕ) (i : ℕ) → length s ≤ i → close o c d (drop i s) ≡ none
unfolding close
close-end o c d s i h = ap (close o c d) (drop_of_length-le s h)

-- ---- the loop of a search: no symbol before place i has closed the bracket, and the rest decides
pub record Tallied (o c : ℕ) (s : List ℕ) (t : Tally) (i : ℕ) : Type 0 where
  pub within : i ≤ length s
  pub same-opener : t.opener ≡ o
  pub same-closer : t.closer ≡ c
  pub some-open : 0 < t.depth
  pub few-open : t.depth ≤ i + 1
  pub not-above : t.depth ≤ 8193
  pub decides : close o c 0 s ≡ close_from o c t.depth (drop i s)

pub tallied-none : (s : List ℕ) (o c : ℕ) → Tallied o c s (started o c) 0
tallied-none s o c =
    record { within = omega arith; same-opener = refl; same-closer = refl; some-open = omega arith; few-open = omega arith; not-above = omega arith; decides = refl }

module _ {o c : ℕ} {s : List ℕ} {t : Tally} {i : ℕ} (tallied : Tallied o c s t i) where
  -- at the ceiling too few symbols are left
  pub tallied-deep : t.depth ≡ 8193 → length s ≤ half_work → Closes s None (close o c 0 s)
  tallied-deep e short =
      let left = length-drop i s in let few = tallied.few-open in
      record { within = omega arith; left = sym (tallied.decides ∙ close_deep o c (t.depth - 1) (drop i s) (omega arith)) }

  pub tallied-end : length s ≤ i → Closes s None (close o c 0 s)
  tallied-end h = record { within = omega arith; left = sym (tallied.decides ∙ close-end o c (t.depth - 1) s i h) }

  -- symbols that change no depth
  pub tallied-past : (r : ℕ) → i < r → r ≤ length s → ((d : ℕ) → close o c d (drop i s) ≡ close o c d (drop r s)) → Tallied o c s t r
  tallied-past r l h same =
      let few = tallied.few-open in
      record {
        within = h;
        same-opener = tallied.same-opener;
        same-closer = tallied.same-closer;
        some-open = tallied.some-open;
        few-open = omega arith;
        not-above = tallied.not-above;
        decides = tallied.decides ∙ same (t.depth - 1);
      }

  module _ (more : i < length s) {t' : Tally} (step : t' ≡ stepped t (get_or s i 0)) where
    depth : t'.depth ≡ depth_after (side_of (eqb (get_or s i 0) o) (eqb (get_or s i 0) c)) t.depth
    depth = depth-stepped t (get_or s i 0) tallied.same-opener tallied.same-closer step

    opened : close o c 0 s ≡ close_from o c t.depth (get_or s i 0 ∷ drop (i + 1) s)
    opened = tallied.decides ∙ ap (close_from o c t.depth) (drop-step s i more)

    pub tallied-here : t'.depth ≡ 0 → Closes s (Some i) (close o c 0 s)
    tallied-here closed = record { within = omega arith; left = sym (opened ∙ close-here o c t.depth (get_or s i 0) (drop (i + 1) s) tallied.some-open (sym depth ∙ closed)) }

    pub tallied-more : t.depth < 8193 → 0 < t'.depth → Tallied o c s t' (i + 1)
    tallied-more below deep =
        let few = tallied.few-open in let most = depth-more o c t.depth (get_or s i 0) (drop (i + 1) s) tallied.some-open in let same = depth in
        record {
          within = omega arith;
          same-opener = opener-kept t (get_or s i 0) tallied.same-opener tallied.same-closer step;
          same-closer = closer-kept t (get_or s i 0) tallied.same-opener tallied.same-closer step;
          some-open = deep;
          few-open = omega arith;
          not-above = omega arith;
          decides =
              opened
              ∙ close-past o c t.depth (get_or s i 0) (drop (i + 1) s) tallied.some-open (subst (λ k. 0 < k) depth deep)
              ∙ ap (λ k. close_from o c k (drop (i + 1) s)) (sym depth);
        }

-- ---- a text that begins with its bracket
pub delimiter-empty : (o c : ℕ) (s : List ℕ) → length s ≡ 0 → matching_delimiter o c s ≡ none
unfolding close
delimiter-empty o c [] e = refl
delimiter-empty o c (x ∷ s) e = absurd (omega arith)

pub delimiter-past : (o c : ℕ) (s : List ℕ) → close o c 0 (drop 1 s) ≡ matching_delimiter o c s
delimiter-past o c s = ap (close o c 0) (sym (past-drop s 0))
