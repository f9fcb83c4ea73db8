-- The order of the definitions, as it is gone through: each next record is the first of those that are left.
--     definitions_left        the records behind a cursor
--     remaining              what is left of the order at a cursor
--     Nexts                  what `next` ensures
-- Assumes nothing.
use Rattle.std.specs.Prelude.{◌≡◌, refl, Bool, true, false, List, [], ◌∷◌, ℕ}
use Rattle.std.proofs.Common.{sym, ◌∙◌, true≢false}
use Rattle.std.proofs.Math.Path.{ap}
use Rattle.std.proofs.Math.Option.{Option, none, some}
use Rattle.spec.specs.Table.{Definition, definitions, precedes, in_order}
use Rattle.spec.specs.Laws.Order.{Distinct}
use Rattle.spec.specs.Laws.Table.{definitions-some, sound-distinct}
use Rattle.spec.specs.Laws.Selection.{
  first_of,
  sooner,
  first-in-order,
  sooner-none,
  sooner-assoc,
  later,
  later-with,
  later-without,
  later-later,
  later-distinct,
  first-later,
  picked_next,
  picked_none,
}
use Rattle.std.specs.Prelude.{Option as Maybe, Some, None}
use Rattle.table.specs.Reading.{Lies, Stands, first_place, definition_at, name_at}
use Rattle.table.specs.Listed.{listed, listed-records}
use Rattle.table.specs.declared.Record.{Record}

-- how far the order has come: the record that came last, if one did
abbrev pub Cursor : Type 0
Cursor = Maybe Record

-- the record of a cursor lies in the table
abbrev pub Reached : List ℕ → Cursor → Type 0
Reached s None = Unit {0}
Reached s (Some r) = Lies s r

abbrev pub is_left : List ℕ → Cursor → List ℕ → Bool
is_left s None name = true
is_left s (Some r) name = precedes (name_at s r) name

abbrev pub definitions_left : List ℕ → Cursor → List Definition → List Definition
definitions_left s None ds = ds
definitions_left s (Some r) ds = later (name_at s r) ds

unfoldable pub remaining : List ℕ → Cursor → List Definition
remaining s c = in_order (definitions_left s c (listed s (first_place s)))

-- the definition that stands there, if there is a record
abbrev pub chosen : List ℕ → Maybe Record → Option Definition
chosen s (Some r) = some (definition_at s r)
chosen s None = none

-- ---- what the functions ensure
-- of `sooner`
pub record Sooner (s : List ℕ) (best : Maybe Record) (found r : Record) : Type 0 where
  pub choice : some (definition_at s r) ≡ sooner (chosen s best) (some (definition_at s found))
  pub stands : Stands s (Some r)

-- of `next`: the first of the order of what is left. A record counts by its definition: where it stands is open beyond that
pub record Nexts (s : List ℕ) (c : Cursor) (r : Maybe Record) : Type 0 where
  pub first : first_of (in_order (definitions_left s c (listed s (first_place s)))) ≡ chosen s r
  pub stands : Stands s r

-- ---- the loop of `next`: what has been chosen so far, beside the first of those that are left from the place on
abbrev pub choosing : List ℕ → Cursor → Maybe Record → ℕ → Option Definition
choosing s c best at = sooner (chosen s best) (first_of (in_order (definitions_left s c (listed s at))))

module _ (s : List ℕ) where
  pub choosing-none : (c : Cursor) (best : Maybe Record) (at : ℕ) → listed s at ≡ [] → choosing s c best at ≡ chosen s best
  unfolding in_order
  choosing-none None best at e = ap (λ l. sooner (chosen s best) (first_of (in_order l))) e ∙ sooner-none (chosen s best)
  choosing-none (Some r) best at e = ap (λ l. sooner (chosen s best) (first_of (in_order (later (name_at s r) l)))) e ∙ sooner-none (chosen s best)

  module _ (c : Cursor) (best : Maybe Record) (at : ℕ) (found : Record) (heads : listed s at ≡ definition_at s found ∷ listed s found.next) where
    left-with : (c : Cursor) → is_left s c (name_at s found) ≡ true → definitions_left s c (definition_at s found ∷ listed s found.next) ≡ definition_at s found ∷ definitions_left s c (listed s found.next)
    left-with None h = refl
    left-with (Some r) h = later-with (name_at s r) (definition_at s found) (listed s found.next) h

    left-without : (c : Cursor) → is_left s c (name_at s found) ≡ false → definitions_left s c (definition_at s found ∷ listed s found.next) ≡ definitions_left s c (listed s found.next)
    left-without None h = absurd (true≢false h)
    left-without (Some r) h = later-without (name_at s r) (definition_at s found) (listed s found.next) h

    pub choosing-other : is_left s c (name_at s found) ≡ false → choosing s c best at ≡ choosing s c best found.next
    choosing-other h = ap (λ l. sooner (chosen s best) (first_of (in_order l))) (ap (definitions_left s c) heads ∙ left-without c h)

    pub choosing-found : {r : Record} → is_left s c (name_at s found) ≡ true → Sooner s best found r → choosing s c best at ≡ choosing s c (Some r) found.next
    choosing-found h so =
        let rest = definitions_left s c (listed s found.next) in
        ap (λ l. sooner (chosen s best) (first_of (in_order l))) (ap (definitions_left s c) heads ∙ left-with c h)
        ∙ ap (sooner (chosen s best)) (first-in-order (definition_at s found) rest)
        ∙ sym (sooner-assoc (chosen s best) (definition_at s found) (first_of (in_order rest)))
        ∙ ap (λ o. sooner o (first_of (in_order rest))) (sym so.choice)

-- ---- from record to record, where no name occurs twice
module _ {s : List ℕ} {c : Cursor} {x : Maybe Record} (nexts : Nexts s c x) where
  pub next-remaining : {r : Record} → Distinct (listed s (first_place s)) → x ≡ Some r → remaining s c ≡ definition_at s r ∷ remaining s (Some r)
  unfolding remaining
  next-remaining {r} distinct e = go c (nexts.first ∙ ap (chosen s) e)
    where
      m : Definition
      m = definition_at s r

      go : (c : Cursor) → first_of (in_order (definitions_left s c (listed s (first_place s)))) ≡ some m → in_order (definitions_left s c (listed s (first_place s))) ≡ m ∷ in_order (later m.name (listed s (first_place s)))
      go None f = picked_next (listed s (first_place s)) m distinct f
      go (Some q) f =
          picked_next (later (name_at s q) (listed s (first_place s))) m (later-distinct (name_at s q) (listed s (first_place s)) distinct) f
          ∙ ap (λ l. m ∷ in_order l) (later-later (name_at s q) m.name (listed s (first_place s)) (first-later (name_at s q) (listed s (first_place s)) m f))

  pub next-done : chosen s x ≡ none → remaining s c ≡ []
  unfolding remaining
  next-done e = picked_none (definitions_left s c (listed s (first_place s))) (nexts.first ∙ e)

-- ---- of a table that number 3 lets pass
pub listed-distinct : (s : List ℕ) (ds : List Definition) → definitions s ≡ some ds → Distinct (listed s (first_place s))
listed-distinct s ds e = let known = definitions-some s ds e in rw (listed-records s ds known.0) (sound-distinct ds known.1)

pub remaining-start : (s : List ℕ) (ds : List Definition) → definitions s ≡ some ds → remaining s None ≡ in_order ds
unfolding remaining
remaining-start s ds e = ap in_order (listed-records s ds (definitions-some s ds e).0)
