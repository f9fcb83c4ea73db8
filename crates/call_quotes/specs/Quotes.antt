-- How a search goes through a text that it sees over quotes, symbol by symbol. Assumes nothing.
--     Sees          the search stands at place i of the text s, which it sees as v, and `quoted` says what it sees from there on
--     PastQuotes    a closing search that stands outside quotes may go on from place i to place r
use Rattle.std.proofs.Math.Path.{◌≡◌, refl, sym, ap}
use Rattle.std.proofs.Common.{ap₂, ◌∙◌, subst, inl, inr, ⊎_elim, length-drop, drop-drop, eqb-true, ltb-true, ne_eqb}
use Rattle.std.specs.Prelude.{MatchOption, Some, None, is_some as found_any}
use Rattle.std.specs.Prelude.{Bool, ◌||◌, ◌⊎◌, ℕ, suc, ◌+◌, ◌-◌, ◌≤◌, ◌<◌, eqb, ltb, get_or}
use Rattle.std.proofs.Math.Bool.{true, false}
use mathlib.Core.List.{List, [], ◌∷◌}
use Rattle.std.proofs.Math.Option.{Option, none, some, none-ne-some}
use Prim.Native.Char.{code}
use native.Mathlib.Omega.{arith}
use Rattle.std.proofs.Math.ListN.{length, drop, drop_of_length-le}
use Rattle.text_search.specs.Search.{Found, Finds, finds-at, finds-within, finds-nothing}
use Rattle.spec.specs.Laws.Booleans.{or_split}
use Rattle.spec.specs.Symbols.{bytes, is, is_some, head, past, contains, find}
use Rattle.spec.specs.Closing.{neither, side, close, quoted_after, seen_as, seen_from}
use Rattle.spec.specs.Laws.Symbols.{drop-step, past-drop, find-tail, contains-find, contains-nowhere}
use Rattle.spec.specs.Laws.Closing.{length_seen}

pub record Sees (v s : List ℕ) (i : ℕ) (quoted : Bool) : Type 0 where
  pub as_long : length v ≡ length s
  pub onward : drop i v ≡ seen_from quoted (drop i s)

pub sees-all : (quoted : Bool) (s : List ℕ) → Sees (seen_from quoted s) s 0 quoted
sees-all quoted s = record { as_long = length_seen quoted s; onward = refl }

module _ {v s : List ℕ} {i : ℕ} {quoted : Bool} (sees : Sees v s i quoted) (more : i < length s) where
  both : get_or v i 0 ∷ drop (i + 1) v ≡ seen_from quoted (get_or s i 0 ∷ drop (i + 1) s)
  both = let l = sees.as_long in sym (drop-step v i (omega arith)) ∙ sees.onward ∙ ap (seen_from quoted) (drop-step s i more)

  pub seen_here : seen_as quoted (get_or s i 0) ≡ get_or v i 0
  unfolding seen_from
  seen_here = sym (ap head both)

  pub sees_more : {quoted' : Bool} → quoted' ≡ quoted_after quoted (get_or s i 0) (drop (i + 1) s) → Sees v s (i + 1) quoted'
  unfolding seen_from
  sees_more e = record { as_long = sees.as_long; onward = ap past both ∙ ap (λ q. seen_from q (drop (i + 1) s)) (sym e) }

-- the same in the rest of the text, and where nothing is left
module _ {v s : List ℕ} (start : ℕ) {quoted : Bool} (as_long : length v ≡ length s) where
  pub sees-later : {k : ℕ} → Sees (drop start v) (drop start s) k quoted → Sees v s (start + k) quoted
  sees-later {k} sees = record { as_long = as_long; onward = sym (drop-drop k start v) ∙ sees.onward ∙ ap (seen_from quoted) (drop-drop k start s) }

  pub sees-end : length s ≤ start → Sees v s start quoted
  unfolding seen_from
  sees-end h =
      let short : length v ≤ start = omega arith in
      record { as_long = as_long; onward = drop_of_length-le v short ∙ ap (seen_from quoted) (sym (drop_of_length-le s h)) }

-- ---- a closing search at a quote
abbrev pub quote : List ℕ
quote = bytes "\""

-- whether there is a next one, by a search whose offset is that in a longer text
pub next-contains : {s : List ℕ} {r : Found} (u : List ℕ) → Finds s r (find quote u) → found_any r ≡ contains quote u
next-contains {r = Some k} u f = sym (sym (contains-find quote u) ∙ ap is_some (finds-at f refl))
next-contains {r = None} u f = sym (sym (contains-find quote u) ∙ ap is_some (finds-nothing f refl))

-- neither a parenthesis nor, outside quotes, anything that begins what is passed over
side-quoted : (x : ℕ) → side (code "(") (code ")") (seen_as true x) ≡ neither
side-quoted x = go (is "(" x) (is ")" x) refl refl
  where
    go : (a b : Bool) → is "(" x ≡ a → is ")" x ≡ b → side (code "(") (code ")") (elim (a || b) as (λ _. ℕ) [ true ↦ code "\"" | false ↦ x ]) ≡ neither
    go true b e f = refl
    go false true e f = refl
    go false false e f = rw (e, f)

-- the text u begins between quotes, and t with the one that ends it
module _ (d : ℕ) where
  abbrev closed : List ℕ → Option (List ℕ)
  closed u = close (code "(") (code ")") d u

  quoted-counts : (x : ℕ) (u : List ℕ) → closed (seen_as true x ∷ u) ≡ closed u
  unfolding close
  quoted-counts x u = rw (side-quoted x, close)

  quoted-past : (u t : List ℕ) → find quote u ≡ some t → closed (seen_from true u) ≡ closed (seen_from false (past t))
  unfolding find seen_from
  quoted-past [] t e = absurd (none-ne-some t e)
  quoted-past (x ∷ u) t e = quoted-counts x (seen_from (quoted_after true x u) u) ∙ go (is "\"" x) refl e (quoted-past u t)
    where
      go : (b : Bool) → is "\"" x ≡ b → ◌≡◌ {A = Option (List ℕ)} (elim b [ true ↦ some (x ∷ u) | false ↦ find quote u ]) (some t)
          → (find quote u ≡ some t → closed (seen_from true u) ≡ closed (seen_from false (past t)))
          → closed (seen_from (quoted_after true x u) u) ≡ closed (seen_from false (past t))
      go true f e later = let same : x ∷ u ≡ t = cc in ap (λ q. closed (seen_from q u)) (rw (f, quoted_after)) ∙ ap (λ l. closed (seen_from false (past l))) same
      go false f e later = ap (λ q. closed (seen_from q u)) (rw (f, quoted_after)) ∙ later e

quoted-drop : (u t : List ℕ) → find quote u ≡ some t → drop (suc (length u - length t)) (seen_from true u) ≡ seen_from false (past t)
unfolding find seen_from
quoted-drop [] t e = absurd (none-ne-some t e)
quoted-drop (x ∷ u) t e = go (is "\"" x) refl e (quoted-drop u t)
  where
    go : (b : Bool) → is "\"" x ≡ b → ◌≡◌ {A = Option (List ℕ)} (elim b [ true ↦ some (x ∷ u) | false ↦ find quote u ]) (some t)
        → (find quote u ≡ some t → drop (suc (length u - length t)) (seen_from true u) ≡ seen_from false (past t))
        → drop (suc (length u) - length t) (seen_from (quoted_after true x u) u) ≡ seen_from false (past t)
    go true f e later =
        let same : x ∷ u ≡ t = cc in let l = ap length same in
        let n : suc (length u) - length t ≡ 0 = omega arith in
        ap₂ (λ k q. drop k (seen_from q u)) n (rw (f, quoted_after)) ∙ ap (λ l. seen_from false (past l)) same
    go false f e later =
        let short = (find-tail quote u t e).shorter in
        let n : suc (length u) - length t ≡ suc (length u - length t) = omega arith in
        ap₂ (λ k q. drop k (seen_from q u)) n (rw (f, quoted_after)) ∙ later e

pub record PastQuotes (s : List ℕ) (i r : ℕ) : Type 0 where
  pub later : i < r
  pub within : r ≤ length s
  pub sees : {v : List ℕ} → Sees v s i false → Sees v s r false
  pub closes : {v : List ℕ} → Sees v s i false → (d : ℕ) → close (code "(") (code ")") d (drop i v) ≡ close (code "(") (code ")") d (drop r v)

-- one symbol that is no parenthesis
module _ {v s : List ℕ} {i : ℕ} {quoted : Bool} (sees : Sees v s i quoted) (more : i < length s) where
  pub closes-past : side (code "(") (code ")") (seen_as quoted (get_or s i 0)) ≡ neither → (d : ℕ) → close (code "(") (code ")") d (drop i v) ≡ close (code "(") (code ")") d (drop (i + 1) v)
  unfolding close
  closes-past e d =
      let l = sees.as_long in
      ap (close (code "(") (code ")") d) (drop-step v i (omega arith) ∙ ap (λ x. x ∷ drop (i + 1) v) (sym (seen_here sees more))) ∙ rw (e, close)

module _ (s : List ℕ) (i : ℕ) (more : i < length s) (here : is "\"" (get_or s i 0) ≡ true) where
  -- what follows the quote is passed over if there is a next one
  after-quote : (b : Bool) → contains quote (drop (i + 1) s) ≡ b → b ≡ quoted_after false (get_or s i 0) (drop (i + 1) s)
  after-quote b e = rw (here, quoted_after) (sym e)

  at-quote : side (code "(") (code ")") (seen_as false (get_or s i 0)) ≡ neither
  at-quote = ap (side (code "(") (code ")")) (eqb-true (get_or s i 0) (code "\"") here)

  pub past_one : find quote (drop (i + 1) s) ≡ none → PastQuotes s i (i + 1)
  past_one absent =
      record {
        later = omega arith;
        within = omega arith;
        sees = λ sees. sees_more sees more (after-quote false (contains-nowhere quote (drop (i + 1) s) absent));
        closes = λ sees d. closes-past sees more at-quote d;
      }

  module _ {k : ℕ} (within : k < length s) (found : find quote (drop (i + 1) s) ≡ some (drop k s)) where
    later : i < k
    later = let t = (find-tail quote (drop (i + 1) s) (drop k s) found).shorter in let a = length-drop (i + 1) s in let b = length-drop k s in omega arith

    module _ {v : List ℕ} (sees : Sees v s i false) where
      between : Sees v s (i + 1) true
      between = sees_more sees more (after-quote true (sym (contains-find quote (drop (i + 1) s)) ∙ ap is_some found))

      behind : Sees v s (k + 1) false
      behind =
          let l = later in let a = length-drop (i + 1) s in let b = length-drop k s in
          let n : i + 1 + suc (length (drop (i + 1) s) - length (drop k s)) ≡ k + 1 = omega arith in
          record {
            as_long = sees.as_long;
            onward =
                ap (λ j. drop j v) (sym n)
                ∙ sym (drop-drop (suc (length (drop (i + 1) s) - length (drop k s))) (i + 1) v)
                ∙ ap (drop (suc (length (drop (i + 1) s) - length (drop k s)))) between.onward
                ∙ quoted-drop (drop (i + 1) s) (drop k s) found
                ∙ ap (seen_from false) (past-drop s k);
          }

      closes-behind : (d : ℕ) → close (code "(") (code ")") d (drop i v) ≡ close (code "(") (code ")") d (drop (k + 1) v)
      closes-behind d =
          closes-past sees more at-quote d
          ∙ ap (close (code "(") (code ")") d) between.onward
          ∙ quoted-past d (drop (i + 1) s) (drop k s) found
          ∙ ap (close (code "(") (code ")") d) (ap (seen_from false) (past-drop s k) ∙ sym behind.onward)

    pub past-both : PastQuotes s i (k + 1)
    past-both = let l = later in record { later = omega arith; within = omega arith; sees = behind; closes = closes-behind }

  -- by what the search for the next quote has found
  pub past-next :
      {q : Found} {r : ℕ} (Q : ℕ → Type 0) → Finds s q (find quote (drop (i + 1) s)) → MatchOption q (r ≡ i + 1) Q → ((k : ℕ) → Q k → r ≡ k + 1)
      → PastQuotes s i r
  past-next {q = Some k} Q found e told = subst (PastQuotes s i) (sym (told k e)) (past-both (finds-within found refl) (finds-at found refl))
  past-next {q = None} Q found e told = subst (PastQuotes s i) (sym e) (past_one (finds-nothing found refl))

-- ---- any other symbol
pub sees-past : {v s : List ℕ} {i : ℕ} {quoted : Bool} → Sees v s i quoted → i < length s → is "\"" (get_or s i 0) ≡ false → Sees v s (i + 1) quoted
sees-past sees more e = sees_more sees more (sym (rw (e, quoted_after)))

-- a symbol that is less than a quote or more than a closing parenthesis
pub record Uncounted (x : ℕ) : Type 0 where
  pub no-quote : is "\"" x ≡ false
  pub no-parenthesis : side (code "(") (code ")") x ≡ neither

pub uncounted : (x : ℕ) → ltb x (code "\"") || ltb (code ")") x ≡ true → Uncounted x
uncounted x e = or_split (ltb x (code "\"")) (ltb (code ")") x) e (λ low. other (let l = ltb-true x (code "\"") low in inl l)) (λ high. other (inr (ltb-true (code ")") x high)))
  where
    unequal : (k : ℕ) → (x ≡ k → ⊥) → eqb x k ≡ false
    unequal k h = ne_eqb x k h

    other : (x < code "\"") ⊎ (code ")" < x) → Uncounted x
    other far =
        record {
          no-quote = unequal (code "\"") (λ e. ⊎_elim (λ (l : x < code "\""). omega arith) (λ (l : code ")" < x). omega arith) far);
          no-parenthesis =
              rw (
                unequal (code "(") (λ e. ⊎_elim (λ (l : x < code "\""). omega arith) (λ (l : code ")" < x). omega arith) far),
                unequal (code ")") (λ e. ⊎_elim (λ (l : x < code "\""). omega arith) (λ (l : code ")" < x). omega arith) far),
              );
        }
