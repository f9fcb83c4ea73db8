-- The steps of the comma searches. Assumes nothing.
--     balanced     brackets opened and closed, after a symbol
--     CommaMet     what the search for a comma answers, of a text s that it sees as v
use Rattle.std.specs.Prelude.{◌≡◌, Bool, ◌&&◌, ◌||◌, ◌⊎◌, List, ◌∷◌, ℕ, ◌+◌, ◌≤◌, ltb, length, drop}
use Rattle.std.proofs.Math.Path.{refl, ap}
use Rattle.std.proofs.Common.{sym, ◌∙◌, subst, eqb-true, ltb-true, ne_eqb, inl, inr, ⊎_elim, arith, drop_of_length-le}
use Rattle.std.proofs.Math.Bool.{true, false, not}
use Rattle.std.proofs.lemmas.Bool.{false≢true}
use Rattle.std.proofs.Math.Option.{none, some}
use Prim.Native.Char.{code}
use Rattle.std.proofs.Math.Numerals.{add-one}
use Rattle.std.proofs.Math.Dec.{eqb}
use Rattle.spec.specs.Symbols.{is}
use Rattle.spec.specs.Laws.Booleans.{and_parts}
use Rattle.spec.specs.Closing.{Side, opens, closes, neither, any_side, comma_behind, find_comma_in_args, unescaped_behind, seen_as}
use Rattle.text_search.specs.Search.{Closes}
use Rattle.std.specs.Prelude.{Option, Some, None}
use Rattle.text_search.specs.Search.{Found}
use Rattle.call_quotes.specs.Quotes.{Sees}
use Rattle.call_commas.specs.declared.Balance.{Balance}
use Rattle.call_commas.specs.declared.Comma.{Comma}

abbrev pub balanced : Balance → Side → Balance
balanced b opens = record { opened = b.opened + 1; closed = b.closed }
balanced b closes = record { opened = b.opened; closed = b.closed + 1 }
balanced b neither = b

module _ (o c x : ℕ) (s : List ℕ) where
  pub comma-here : is "," x && eqb o c ≡ true → comma_behind o c (x ∷ s) ≡ some s
  unfolding comma_behind
  comma-here e = go (eqb x (code ",")) refl e
    where
      go : (t : Bool) → eqb x (code ",") ≡ t → t && eqb o c ≡ true → comma_behind o c (x ∷ s) ≡ some s
      go true f e = ap (λ y. comma_behind o c (y ∷ s)) (eqb-true x (code ",") f) ∙ rw (e, comma_behind)
      go false f e = absurd (false≢true e)

  pub comma-past :
      {b : Balance} → is "," x && eqb o c ≡ false → b ≡ balanced (record { opened = o; closed = c }) (any_side x)
      → comma_behind o c (x ∷ s) ≡ comma_behind b.opened b.closed s
  unfolding comma_behind
  comma-past e same = go (any_side x) refl ∙ ap (λ b. comma_behind b.opened b.closed s) (sym same)
    where
      go : (side : Side) → any_side x ≡ side
          → comma_behind o c (x ∷ s) ≡ comma_behind (balanced (record { opened = o; closed = c }) side).opened (balanced (record { opened = o; closed = c }) side).closed s
      go opens f = rw (f, add-one o, comma_behind)
      go closes f = rw (f, add-one c, comma_behind)
      go neither f = rw (f, e, comma_behind)

-- a symbol counts one bracket at the most
pub balanced-more : (b : Balance) (side : Side) → (balanced b side).opened + (balanced b side).closed ≤ b.opened + b.closed + 1
balanced-more b opens = omega arith
balanced-more b closes = omega arith
balanced-more b neither = omega arith

module _ (before x : ℕ) (s : List ℕ) where
  pub unescaped-here : is "," x && not (is "\\" before) ≡ true → unescaped_behind before (x ∷ s) ≡ some s
  unfolding unescaped_behind
  unescaped-here e = go (is "," x) (is "\\" before) refl refl e
    where
      go : (t u : Bool) → is "," x ≡ t → is "\\" before ≡ u → t && not u ≡ true → unescaped_behind before (x ∷ s) ≡ some s
      go true true f g e = absurd (false≢true e)
      go true false f g e = rw (f, g, unescaped_behind)
      go false u f g e = absurd (false≢true e)

  pub unescaped-past : is "," x && not (is "\\" before) ≡ false → unescaped_behind before (x ∷ s) ≡ unescaped_behind x s
  unfolding unescaped_behind
  unescaped-past e = go (is "," x) (is "\\" before) refl refl e
    where
      go : (t u : Bool) → is "," x ≡ t → is "\\" before ≡ u → t && not u ≡ false → unescaped_behind before (x ∷ s) ≡ unescaped_behind x s
      go true true f g e = rw (f, g, unescaped_behind)
      go true false f g e = absurd (false≢true (sym e))
      go false u f g e = rw (f, unescaped_behind)

-- ---- nothing is left
pub comma-end : (o c : ℕ) (s : List ℕ) (i : ℕ) → length s ≤ i → comma_behind o c (drop i s) ≡ none
unfolding comma_behind
comma-end o c s i h = ap (comma_behind o c) (drop_of_length-le s h)

pub unescaped-end : (before : ℕ) (s : List ℕ) (i : ℕ) → length s ≤ i → unescaped_behind before (drop i s) ≡ none
unfolding unescaped_behind
unescaped-end before s i h = ap (unescaped_behind before) (drop_of_length-le s h)

-- ---- the answer
abbrev pub place_of : Option Comma → Found
place_of (Some comma) = Some comma.at
place_of None = None

-- what the search sees behind the comma
abbrev pub SeesBehind : List ℕ → List ℕ → Option Comma → Type 0
SeesBehind v s (Some comma) = Sees v s (comma.at + 1) comma.behind.quoted
SeesBehind v s None = Unit {0}

pub record CommaMet (v s : List ℕ) (r : Option Comma) : Type 0 where
  pub closes : Closes v (place_of r) (find_comma_in_args v)
  pub behind : SeesBehind v s r

pub comma-met : {v s : List ℕ} {r : Option Comma} {f : Found} → CommaMet v s r → place_of r ≡ f → Closes v f (find_comma_in_args v)
comma-met {v} met e = subst (λ f. Closes v f (find_comma_in_args v)) e met.closes

-- ---- what is seen
-- a comma is seen as it is, quoted or not
pub comma-seen : (quoted : Bool) (x : ℕ) → is "," (seen_as quoted x) ≡ is "," x
comma-seen false x = refl
comma-seen true x = go (is "(" x) (is ")" x) refl refl
  where
    go : (a b : Bool) → is "(" x ≡ a → is ")" x ≡ b → is "," (elim (a || b) as (λ _. ℕ) [ true ↦ code "\"" | false ↦ x ]) ≡ is "," x
    go true b e f = ap (is ",") (sym (eqb-true x (code "(") e))
    go false true e f = ap (is ",") (sym (eqb-true x (code ")") f))
    go false false e f = refl

-- a quote counts nothing
pub quote-past : (o c : ℕ) (quoted : Bool) (x : ℕ) (s : List ℕ) → is "\"" x ≡ true → comma_behind o c (seen_as quoted x ∷ s) ≡ comma_behind o c s
unfolding comma_behind
quote-past o c quoted x s e = ap (λ y. comma_behind o c (seen_as quoted y ∷ s)) (eqb-true x (code "\"") e) ∙ go quoted
  where
    go : (quoted : Bool) → comma_behind o c (seen_as quoted (code "\"") ∷ s) ≡ comma_behind o c s
    go true = refl
    go false = refl

-- small letters, and what else stands between the brackets `]` and `{`, count nothing either
module _ (x : ℕ) (between : ltb (code "]") x && ltb x (code "{") ≡ true) where
  apart : (k : ℕ) → (k ≤ code "]") ⊎ (code "{" ≤ k) → eqb x k ≡ false
  apart k far =
      let both = and_parts (ltb (code "]") x) (ltb x (code "{")) between in
      let low = ltb-true (code "]") x both.0 in let high = ltb-true x (code "{") both.1 in
      ne_eqb x k (λ e. ⊎_elim (λ (h : k ≤ code "]"). omega arith) (λ (h : code "{" ≤ k). omega arith) far)

  pub letter-no-quote : is "\"" x ≡ false
  letter-no-quote = apart (code "\"") (inl (omega arith))

  side-letter : any_side x ≡ neither
  side-letter =
      rw (apart (code "(") (inl (omega arith)), apart (code "[") (inl (omega arith)), apart (code "{") (inr (omega arith)))
      (rw (apart (code ")") (inl (omega arith)), apart (code "]") (inl (omega arith)), apart (code "}") (inr (omega arith))) refl)

  pub letter-past : (o c : ℕ) (quoted : Bool) (s : List ℕ) → comma_behind o c (seen_as quoted x ∷ s) ≡ comma_behind o c s
  unfolding comma_behind
  letter-past o c quoted s = ap (λ y. comma_behind o c (y ∷ s)) (seen quoted) ∙ rw (side-letter, apart (code ",") (inl (omega arith)), comma_behind)
    where
      seen : (quoted : Bool) → seen_as quoted x ≡ x
      seen false = refl
      seen true = rw (apart (code "(") (inl (omega arith)), apart (code ")") (inl (omega arith)), seen_as)
