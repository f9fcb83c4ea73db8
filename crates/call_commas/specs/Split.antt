-- The parts that top-level commas make of a text, one after another. Assumes nothing.
--     Splits s start r    the first part of the text from `start` on ends at r, and the others are those of the text behind
use Rattle.std.specs.Prelude.{◌≡◌, refl, Bool, true, false, cond, ◌&&◌, List, [], ◌∷◌, ℕ, zero, suc, pred, ◌+◌, ◌-◌, ◌≤◌, ◌<◌, eqb, ltb, length, take, drop}
use Rattle.std.proofs.Common.{sym, ap, ap₂, ◌∙◌, subst, arith, length-drop, drop-drop, lt-ltb, le-ltb, eqb-true}
use Rattle.std.proofs.lemmas.Bool.{false≢true}
use Rattle.std.proofs.Math.Option.{Option, none, some}
use Rattle.std.proofs.Math.Dec.{eqb-suc-suc}
use Rattle.spec.specs.Symbols.{is, inside}
use Rattle.spec.specs.Closing.{Side, opens, closes, neither, any_side, comma_behind, find_comma_in_args, pushed, split_from, split_top_level_commas, seen_from, over_quotes}
use Rattle.text_symbols.specs.Parts.{part, rest_of}
use Rattle.text_search.specs.Search.{Closes, closes-at, closes-within, closes-nothing, inside-drop}
use Rattle.text_search.specs.Search.{Found}
use Rattle.call_quotes.specs.Quotes.{Sees, sees-later, sees-end}
use Rattle.call_quotes.specs.declared.Quotes.{Quotes}
use Rattle.call_commas.specs.Commas.{CommaMet, SeesBehind, place_of, comma-met}
use Rattle.call_commas.specs.declared.Comma.{Comma}
use Rattle.std.specs.Prelude.{Option as Maybe, Some, None}

-- the parts behind a comma at r, and none where the text ends there
abbrev pub parts_behind : List ℕ → ℕ → List (List ℕ)
parts_behind s r = cond (ltb r (length s)) (split_top_level_commas (drop (r + 1) s)) []

pub record Splits (s : List ℕ) (start r : ℕ) : Type 0 where
  pub later : start ≤ r
  pub within : r ≤ length s
  pub parts : split_top_level_commas (drop start s) ≡ part start (r - start) s ∷ parts_behind s r

-- ---- the first part by what the comma search finds
abbrev parts_of : List ℕ → Option (List ℕ) → List (List ℕ)
parts_of s none = s ∷ []
parts_of s (some r) = inside s r ∷ split_top_level_commas r

-- only the difference of brackets opened and closed counts
split-shift : (o c : ℕ) (s : List ℕ) → split_from (suc o) (suc c) s ≡ split_from o c s
unfolding split_from
split-shift o c [] = refl
split-shift o c (x ∷ s) = go (any_side x) refl (split-shift (suc o) c s) (split-shift o (suc c) s) (split-shift o c s)
  where
    go : (side : Side) → any_side x ≡ side → split_from (suc (suc o)) (suc c) s ≡ split_from (suc o) c s → split_from (suc o) (suc (suc c)) s ≡ split_from o (suc c) s
        → split_from (suc o) (suc c) s ≡ split_from o c s → split_from (suc o) (suc c) (x ∷ s) ≡ split_from o c (x ∷ s)
    go opens f a b e = rw (f, split_from) (ap (pushed x) a)
    go closes f a b e = rw (f, split_from) (ap (pushed x) b)
    go neither f a b e = rw (f, split_from, eqb-suc-suc o c) (ap₂ (λ p q. elim (is "," x && eqb o c) [ true ↦ [] ∷ p | false ↦ pushed x q ]) e e)

split_level : (k : ℕ) (s : List ℕ) → split_from k k s ≡ split_top_level_commas s
split_level zero s = refl
split_level (suc k) s = split-shift k k s ∙ split_level k s

comma-short : (o c : ℕ) (s r : List ℕ) → comma_behind o c s ≡ some r → length r < length s
unfolding comma_behind
comma-short o c [] r e = let z : ◌≡◌ {A = ℕ} 0 1 = cc in absurd (omega arith)
comma-short o c (x ∷ s) r e = go (any_side x) (is "," x && eqb o c) (comma-short (suc o) c s r) (comma-short o (suc c) s r) (comma-short o c s r) e
  where
    go : (side : Side) (t : Bool) → (comma_behind (suc o) c s ≡ some r → length r < length s) → (comma_behind o (suc c) s ≡ some r → length r < length s)
        → (comma_behind o c s ≡ some r → length r < length s)
        → ◌≡◌ {A = Option (List ℕ)} (elim side [ opens ↦ comma_behind (suc o) c s | closes ↦ comma_behind o (suc c) s | neither ↦ elim t [ true ↦ some s | false ↦ comma_behind o c s ] ]) (some r)
        → length r < suc (length s)
    go opens t a b d e = let l = a e in omega arith
    go closes t a b d e = let l = b e in omega arith
    go neither true a b d e = let same : s ≡ r = cc in let l = ap length same in omega arith
    go neither false a b d e = let l = d e in omega arith

pushed-parts : (x : ℕ) (s : List ℕ) (q : Option (List ℕ)) → ((r : List ℕ) → q ≡ some r → length r < length s) → pushed x (parts_of s q) ≡ parts_of (x ∷ s) q
pushed-parts x s none short = refl
pushed-parts x s (some r) short =
    let l = short r refl in
    let n : pred (suc (length s) - length r) ≡ suc (pred (length s - length r)) = omega arith in
    ap (λ k. take k (x ∷ s) ∷ split_top_level_commas r) (sym n)

split_parts : (o c : ℕ) (s : List ℕ) → split_from o c s ≡ parts_of s (comma_behind o c s)
unfolding split_from comma_behind
split_parts o c [] = refl
split_parts o c (x ∷ s) = go (any_side x) refl (split_parts (suc o) c s) (split_parts o (suc c) s) (split_parts o c s)
  where
    here : (t : Bool) → is "," x && eqb o c ≡ t → split_from o c s ≡ parts_of s (comma_behind o c s)
        → ◌≡◌ {A = List (List ℕ)} (elim t [ true ↦ [] ∷ split_from o c s | false ↦ pushed x (split_from o c s) ]) (parts_of (x ∷ s) (elim t [ true ↦ some s | false ↦ comma_behind o c s ]))
    here true f e =
        let n : pred (suc (length s) - length s) ≡ 0 = omega arith in
        ap₂ (λ k p. take k (x ∷ s) ∷ p) (sym n) (ap (λ k. split_from o k s) (sym (level (is "," x) f)) ∙ split_level o s)
      where
        level : (u : Bool) → u && eqb o c ≡ true → o ≡ c
        level true f = eqb-true o c f
        level false f = absurd (false≢true f)
    here false f e = ap (pushed x) e ∙ pushed-parts x s (comma_behind o c s) (comma-short o c s)

    go : (side : Side) → any_side x ≡ side → split_from (suc o) c s ≡ parts_of s (comma_behind (suc o) c s) → split_from o (suc c) s ≡ parts_of s (comma_behind o (suc c) s)
        → split_from o c s ≡ parts_of s (comma_behind o c s) → split_from o c (x ∷ s) ≡ parts_of (x ∷ s) (comma_behind o c (x ∷ s))
    go opens f a b e = rw (f, split_from, comma_behind) (ap (pushed x) a ∙ pushed-parts x s (comma_behind (suc o) c s) (comma-short (suc o) c s))
    go closes f a b e = rw (f, split_from, comma_behind) (ap (pushed x) b ∙ pushed-parts x s (comma_behind o (suc c) s) (comma-short o (suc c) s))
    go neither f a b e = rw (f, split_from, comma_behind) (here (is "," x && eqb o c) refl e)

-- ---- what the search in the rest of a slice says
module _ {s : List ℕ} {start : ℕ} {r : Found} (within : start ≤ length s) (found : Closes (drop start s) r (find_comma_in_args (drop start s))) where
  splits-at : (k : ℕ) → r ≡ Some k → Splits s start (start + k)
  splits-at k e =
      let l = closes-within found e in let d = length-drop start s in
      let n : start + k - start ≡ k = omega arith in
      let m : start + (k + 1) ≡ start + k + 1 = omega arith in
      record {
        later = omega arith;
        within = omega arith;
        parts =
            split_parts 0 0 (drop start s)
            ∙ ap (parts_of (drop start s)) (closes-at found e)
            ∙ ap₂ (λ p q. p ∷ q)
            (inside-drop (drop start s) k l ∙ ap (λ i. take i (drop start s)) (sym n))
            (ap split_top_level_commas (drop-drop (k + 1) start s ∙ ap (λ i. drop i s) m) ∙ rw (lt-ltb (start + k) (length s) (omega arith)));
      }

  splits-end : r ≡ None → Splits s start (length s)
  splits-end e =
      record {
        later = within;
        within = omega arith;
        parts =
            split_parts 0 0 (drop start s)
            ∙ ap (parts_of (drop start s)) (closes-nothing found e)
            ∙ ap₂ (λ p q. p ∷ q) (sym (rest_of start s)) (rw (le-ltb (length s) (length s) (omega arith)));
      }

-- the same of a text s that is seen over quotes
module _
    {s : List ℕ} {start : ℕ} {quoted : Bool} {r : Maybe Comma} (within : start ≤ length s) (sees : Sees (over_quotes s) s start quoted)
    (met : CommaMet (seen_from quoted (part start (length s - start) s)) (part start (length s - start) s) r)
  where
    long : length (over_quotes s) ≡ length s
    long = sees.as_long

    met-onward : CommaMet (drop start (over_quotes s)) (drop start s) r
    met-onward = subst (λ v. CommaMet v (drop start s) r) (sym sees.onward) (subst (λ t. CommaMet (seen_from quoted t) t r) (rest_of start s) met)

    pub seen-splits-at : {k : ℕ} {quotes : Quotes} → r ≡ Some (record { at = k; behind = quotes }) → Splits (over_quotes s) start (start + k) × Sees (over_quotes s) s (start + k + 1) quotes.quoted
    seen-splits-at {k} {quotes} e =
        let behind : Sees (drop start (over_quotes s)) (drop start s) (k + 1) quotes.quoted = subst (SeesBehind (drop start (over_quotes s)) (drop start s)) e met-onward.behind in
        let next : start + (k + 1) ≡ start + k + 1 = omega arith in
        (splits-at (let l = long in omega arith) (comma-met met-onward (ap place_of e)) k refl, subst (λ i. Sees (over_quotes s) s i quotes.quoted) next (sees-later start long behind))

    pub seen-splits-end : r ≡ None → {quoted' : Bool} → Splits (over_quotes s) start (length s) × Sees (over_quotes s) s (length s + 1) quoted'
    seen-splits-end e = (subst (Splits (over_quotes s) start) long (splits-end (let l = long in omega arith) (comma-met met-onward (ap place_of e)) refl), sees-end (length s + 1) long (omega arith))
