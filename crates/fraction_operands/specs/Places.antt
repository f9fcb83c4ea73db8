-- Places in a text. From place i the symbols ahead are `drop i s`, and those behind, nearest first, `before s i`.
--     Place                      what a search asks
--     FoundAhead, FoundBack      what it ensures, as `AheadTo` and `BackTo` do, where it may find nothing
-- Assumes nothing.
use Rattle.std.specs.Prelude.{◌≡◌, List, ℕ, ◌-◌, ◌≤◌, length, take, drop}
use Rattle.std.proofs.Common.{sym, ap, ◌∙◌, arith, length-drop}
use Rattle.std.proofs.Math.Option.{Option, none, some}
use Rattle.spec.specs.Result.{most_symbols}
use Rattle.spec.specs.Symbols.{until}
use Rattle.spec.specs.Closing.{or_end}
use Rattle.text_symbols.specs.Parts.{part}
use Rattle.text_search.specs.Search.{Found, onward}
use Rattle.std.specs.Prelude.{Some, None}
use Rattle.text_symbols.specs.Places.{AheadTo, BackTo}
use Rattle.text_closing.specs.Backward.{left_before}

-- a place in a text within number 5's limit
pub record Place (s : List ℕ) (i : ℕ) : Type 0 where
  pub short : length s ≤ most_symbols
  pub within : i ≤ length s

-- the place that was found, or where the search began
abbrev pub found_or : ℕ → Found → ℕ
found_or start (Some i) = i
found_or start None = start

pub record FoundAhead (s : List ℕ) (start : ℕ) (r : Found) (o : Option (List ℕ)) : Type 0 where
  pub from : start ≤ found_or start r
  pub within : found_or start r ≤ length s
  pub left : onward s r ≡ o

pub record FoundBack (s : List ℕ) (end : ℕ) (r : Found) (o : Option (List ℕ)) : Type 0 where
  pub to : found_or end r ≤ end
  pub left : left_before s r ≡ o

-- ---- what an answer tells
module _ {s : List ℕ} {start : ℕ} {r : Found} {o : Option (List ℕ)} where
  pub ahead-found : {i : ℕ} → FoundAhead s start r o → r ≡ Some i → AheadTo s start i (or_end o)
  ahead-found f e =
      let b = ap (found_or start) e in let w = f.within in let g = f.from in
      record { from = omega arith; within = omega arith; left = ap or_end (sym (ap (onward s) e) ∙ f.left) }

  pub ahead-is : {i : ℕ} → FoundAhead s start r o → r ≡ Some i → o ≡ some (drop i s)
  ahead-is f e = sym f.left ∙ ap (onward s) e

  pub ahead-nothing : FoundAhead s start r o → r ≡ None → o ≡ none
  ahead-nothing f e = sym f.left ∙ ap (onward s) e

  pub behind-nothing : FoundBack s start r o → r ≡ None → o ≡ none
  behind-nothing f e = sym f.left ∙ ap (left_before s) e

-- ---- answers
pub nothing-behind : {s : List ℕ} {end : ℕ} {o : Option (List ℕ)} → o ≡ none → FoundBack s end None o
nothing-behind e = record { to = omega arith; left = sym e }

pub found-behind : {s : List ℕ} {end i : ℕ} {l : List ℕ} {o : Option (List ℕ)} → BackTo s end i l → o ≡ some l → FoundBack s end (Some i) o
found-behind a e = record { to = a.to; left = ap some a.left ∙ sym e }

-- the search ends where it stands
pub stays : {s : List ℕ} {start : ℕ} {l : List ℕ} → Place s start → l ≡ drop start s → AheadTo s start start l
stays p e = let w = p.within in record { from = omega arith; within = omega arith; left = sym e }

-- a search that goes on from a later place, or from an earlier one to the left
pub ahead-then : {s : List ℕ} {start mid r : ℕ} {l m : List ℕ} → start ≤ mid → AheadTo s mid r l → m ≡ l → AheadTo s start r m
ahead-then h a e = let f = a.from in record { from = omega arith; within = a.within; left = a.left ∙ sym e }

pub behind-then : {s : List ℕ} {end mid r : ℕ} {l m : List ℕ} → mid ≤ end → BackTo s mid r l → m ≡ l → BackTo s end r m
behind-then h a e = let f = a.to in record { to = omega arith; left = a.left ∙ sym e }

pub found-ahead-then : {s : List ℕ} {start mid : ℕ} {r : Found} {o p : Option (List ℕ)} → start ≤ mid → Place s start → FoundAhead s mid r o → p ≡ o → FoundAhead s start r p
found-ahead-then {s} {start} {mid} {r} h at a e =
    let f = a.from in let w = a.within in let p = at.within in
    record { from = go r f; within = within r w; left = a.left ∙ sym e }
  where
    go : (r : Found) → mid ≤ found_or mid r → start ≤ found_or start r
    go (Some i) f = omega arith
    go None f = omega arith

    within : (r : Found) → found_or mid r ≤ length s → found_or start r ≤ length s
    within (Some i) w = w
    within None w = at.within

pub found-behind-then : {s : List ℕ} {end mid : ℕ} {r : Found} {o p : Option (List ℕ)} → mid ≤ end → FoundBack s mid r o → p ≡ o → FoundBack s end r p
found-behind-then {end = end} {mid} {r} h a e = record { to = go r a.to; left = a.left ∙ sym e }
  where
    go : (r : Found) → found_or mid r ≤ mid → found_or end r ≤ end
    go (Some i) f = omega arith
    go None f = omega arith

-- ---- what lies between two places
pub until-ahead : (s : List ℕ) (i j : ℕ) → i ≤ j → j ≤ length s → until (drop i s) (drop j s) ≡ part i (j - i) s
until-ahead s i j h w =
    let m = length-drop i s in let n = length-drop j s in
    let e : length (drop i s) - length (drop j s) ≡ j - i = omega arith in
    ap (λ k. take k (drop i s)) e
