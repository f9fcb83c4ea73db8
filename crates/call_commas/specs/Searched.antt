-- The loop of the search for a comma. Assumes nothing.
--     Searched    no comma before place i is at the top level, and the rest of the text s, which the search sees as v, decides
use Rattle.std.specs.Prelude.{◌≡◌, Bool, true, false, ◌&&◌, List, ◌∷◌, ℕ, ◌+◌, ◌≤◌, ◌<◌, eqb, ltb, length, get_or, drop}
use Rattle.std.proofs.Common.{sym, ap, ◌∙◌, arith}
use Prim.Native.Char.{code}
use Rattle.spec.specs.Symbols.{is}
use Rattle.spec.specs.Closing.{any_side, comma_behind, quoted_after, seen_as, seen_from}
use Rattle.spec.specs.Laws.Symbols.{drop-step}
use Rattle.call_quotes.specs.Quotes.{Sees, sees-all, seen_here, sees_more, sees-past}
use Rattle.call_quotes.specs.declared.Quotes.{Quotes}
use Rattle.call_commas.specs.declared.Balance.{Balance}
use Rattle.std.specs.Prelude.{Some, None}
use Rattle.call_commas.specs.Commas.{balanced, balanced-more, comma-here, comma-past, comma-end, comma-seen, quote-past, letter-no-quote, letter-past, CommaMet}

pub record Searched (v s : List ℕ) (b : Balance) (quoted : Bool) (i : ℕ) : Type 0 where
  pub within : i ≤ length s
  pub few : b.opened + b.closed ≤ i
  pub sees : Sees v s i quoted
  pub decides : comma_behind 0 0 v ≡ comma_behind b.opened b.closed (drop i v)

pub searched-none : (quoted : Bool) (s : List ℕ) {b : Balance} → (b.opened ≡ 0) × (b.closed ≡ 0) → Searched (seen_from quoted s) s b quoted 0
searched-none quoted s start = record { within = omega arith; few = omega arith; sees = sees-all quoted s; decides = rw (start.0, start.1) }

module _ {v s : List ℕ} {b : Balance} {quoted : Bool} {i : ℕ} (searched : Searched v s b quoted i) where
  pub searched-end : length s ≤ i → CommaMet v s None
  searched-end h =
      let long = searched.sees.as_long in
      record { closes = record { within = omega arith; left = sym (searched.decides ∙ comma-end b.opened b.closed v i (omega arith)) }; behind = tt }

  module _ (more : i < length s) where
    abbrev here : ℕ
    here = get_or s i 0

    opened : comma_behind 0 0 v ≡ comma_behind b.opened b.closed (seen_as quoted here ∷ drop (i + 1) v)
    opened =
        let long = searched.sees.as_long in
        searched.decides
        ∙ ap (comma_behind b.opened b.closed) (drop-step v i (omega arith) ∙ ap (λ x. x ∷ drop (i + 1) v) (sym (seen_here searched.sees more)))

    -- a symbol that counts nothing
    searched-past : {quoted' : Bool} → Sees v s (i + 1) quoted'
        → comma_behind b.opened b.closed (seen_as quoted here ∷ drop (i + 1) v) ≡ comma_behind b.opened b.closed (drop (i + 1) v)
        → Searched v s b quoted' (i + 1)
    searched-past onward same = let few = searched.few in record { within = omega arith; few = omega arith; sees = onward; decides = opened ∙ same }

    pub searched-letter : ltb (code "]") here && ltb here (code "{") ≡ true → Searched v s b quoted (i + 1)
    searched-letter e = searched-past (sees-past searched.sees more (letter-no-quote here e)) (letter-past here e b.opened b.closed quoted (drop (i + 1) v))

    pub searched-quote : is "\"" here ≡ true → {quoted' : Bool} → quoted' ≡ quoted_after quoted here (drop (i + 1) s) → Searched v s b quoted' (i + 1)
    searched-quote e onward = searched-past (sees_more searched.sees more onward) (quote-past b.opened b.closed quoted here (drop (i + 1) v) e)

    -- any other symbol is a comma at the top level, or it is counted
    module _ (other : is "\"" here ≡ false) where
      comma : (t : Bool) → is "," here && eqb b.opened b.closed ≡ t → is "," (seen_as quoted here) && eqb b.opened b.closed ≡ t
      comma t e = ap (λ c. c && eqb b.opened b.closed) (comma-seen quoted here) ∙ e

      pub searched-here : {quotes : Quotes} → quotes.quoted ≡ quoted → is "," here && eqb b.opened b.closed ≡ true → CommaMet v s (Some (record { at = i; behind = quotes }))
      searched-here same e =
          let long = searched.sees.as_long in
          record {
            closes = record { within = omega arith; left = sym (opened ∙ comma-here b.opened b.closed (seen_as quoted here) (drop (i + 1) v) (comma true e)) };
            behind = rw same (sees-past searched.sees more other);
          }

      pub searched-more : is "," here && eqb b.opened b.closed ≡ false → {b' : Balance} → b' ≡ balanced b (any_side (seen_as quoted here)) → Searched v s b' quoted (i + 1)
      searched-more e step =
          let few = searched.few in let most = balanced-more b (any_side (seen_as quoted here)) in
          let same = ap (λ k. k.opened + k.closed) step in
          record {
            within = omega arith;
            few = omega arith;
            sees = sees-past searched.sees more other;
            decides = opened ∙ comma-past b.opened b.closed (seen_as quoted here) (drop (i + 1) v) (comma false e) step;
          }
