-- The records from a place of a table on, up to the first that can't be read: all of them where each can.
--     listed           those records
--     listed_at        the same by what stands at the place
--     Listed           the first of them at a place, if there is one
--     listed-records   where `records` has them all, they are these
-- Assumes nothing.
use Rattle.std.specs.Prelude.{◌≡◌, List, [], ◌∷◌, drop}
use Rattle.std.proofs.Math.Path.{refl, ap}
use Rattle.std.proofs.Common.{sym, ◌∙◌, arith}
use Rattle.std.proofs.Math.Option.{Option, none, some, map, none-ne-some}
use Prim.Native.Nat.{ℕ, zero, suc, ◌+◌, ◌-◌, ◌≤◌, ◌<◌}
use Rattle.std.proofs.Math.ListN.{length}
use Rattle.spec.specs.Table.{Definition, form_of, width, records_in, records}
use Rattle.spec.specs.Laws.Table.{width_some}
use Rattle.table.specs.Reading.{Reading, Lies, Short, Reads, read_at, first_place, read-end, records_by, records-at, read-places, definition_at}
use Rattle.table.specs.declared.Record.{Record}
use Rattle.std.specs.Prelude.{Option as Maybe, Some, None, Ok, Err}
use Rattle.std.specs.Result.{result_unwrap_or}

-- what is read, before the records of a later place
abbrev listing : List ℕ → (ℕ → List Definition) → Reading → List Definition
listing s later (Ok (Some r)) = definition_at s r ∷ later r.next
listing s later (Ok None) = []
listing s later (Err e) = []

-- at most k of them
unfoldable pub listed_with : ℕ → List ℕ → ℕ → List Definition
listed_with zero s at = []
listed_with (suc k) s at = listing s (λ next. listed_with k s next) (read_at s at)

unfoldable pub listed : List ℕ → ℕ → List Definition
unfolding listed_with
listed s at = listed_with (length s - at) s at

abbrev pub listed_by : List ℕ → Reading → List Definition
listed_by s r = listing s (listed s) r

-- the record r at a place, and those behind it
pub record Heads (s : List ℕ) (at : ℕ) (r : Record) : Type 0 where
  pub headed : r.name ≡ at + width (form_of s)
  pub behind : at < r.name
  pub lies : Lies s r
  pub first : listed s at ≡ definition_at s r ∷ listed s r.next

module _ (s : List ℕ) where
  -- two bounds on the number of records that are both high enough
  enough : (k m at : ℕ) → length s - at ≤ k → length s - at ≤ m → listed_with k s at ≡ listed_with m s at
  unfolding listed_with
  enough zero zero at h g = refl
  enough zero (suc m) at h g = rw (read-end (form_of s) s at (omega arith))
  enough (suc k) zero at h g = rw (read-end (form_of s) s at (omega arith))
  enough (suc k) (suc m) at h g = go (read_at s at) refl (enough k m)
    where
      go : (r : Reading) → read_at s at ≡ r → ((next : ℕ) → length s - next ≤ k → length s - next ≤ m → listed_with k s next ≡ listed_with m s next)
          → listing s (λ next. listed_with k s next) r ≡ listing s (λ next. listed_with m s next) r
      go (Ok (Some r)) e later = let p = read-places (form_of s) s at e in let w = width_some (form_of s) in ap (λ ds. definition_at s r ∷ ds) (later r.next (omega arith) (omega arith))
      go (Ok None) e later = refl
      go (Err u) e later = refl

  pub listed_at : (at : ℕ) → listed s at ≡ listed_by s (read_at s at)
  unfolding listed listed_with
  listed_at at = enough (length s - at) (suc (length s)) at (omega arith) (omega arith) ∙ go (read_at s at)
    where
      go : (r : Reading) → listing s (λ next. listed_with (length s) s next) r ≡ listing s (listed s) r
      go (Ok (Some r)) = ap (λ ds. definition_at s r ∷ ds) (enough (length s) (length s - r.next) r.next (omega arith) (omega arith))
      go (Ok None) = refl
      go (Err u) = refl

  -- the same as `records` has them, with a bound k on how far the table goes on
  listed-before : (k at : ℕ) (ds : List Definition) → length s ≤ at + k → records_in (form_of s) (drop at s) ≡ some ds → listed s at ≡ ds
  listed-before zero at ds h e =
      let end = read-end (form_of s) s at (omega arith) in
      let none_left : records_by (form_of s) s (Ok None) ≡ some ds = ap (records_by (form_of s) s) (sym end) ∙ sym (records-at (form_of s) s at) ∙ e in
      listed_at at ∙ ap (listed_by s) end ∙ cc
  listed-before (suc k) at ds h e = listed_at at ∙ go (read_at s at) refl (sym (records-at (form_of s) s at) ∙ e) (listed-before k)
    where
      past : (r : Record) (o : Option (List Definition)) → records_in (form_of s) (drop r.next s) ≡ o → map (λ (es : List Definition). definition_at s r ∷ es) o ≡ some ds
          → ((es : List Definition) → records_in (form_of s) (drop r.next s) ≡ some es → listed s r.next ≡ es) → definition_at s r ∷ listed s r.next ≡ ds
      past r none e f later = absurd (none-ne-some ds f)
      past r (some es) e f later = let same : definition_at s r ∷ es ≡ ds = cc in ap (λ l. definition_at s r ∷ l) (later es e) ∙ same

      go : (r : Reading) → read_at s at ≡ r → records_by (form_of s) s r ≡ some ds
          → ((next : ℕ) (es : List Definition) → length s ≤ next + k → records_in (form_of s) (drop next s) ≡ some es → listed s next ≡ es) → listed_by s r ≡ ds
      go (Ok (Some r)) e f later = let p = read-places (form_of s) s at e in let w = width_some (form_of s) in past r (records_in (form_of s) (drop r.next s)) refl f (λ es. later r.next es (omega arith))
      go (Ok None) e f later = cc
      go (Err u) e f later = absurd (none-ne-some ds f)

  pub listed-records : (ds : List Definition) → records s ≡ some ds → listed s (first_place s) ≡ ds
  listed-records ds e = listed-before (length s) (first_place s) ds (omega arith) e

-- ---- what a record at a place tells of the records from there on
pub heads-at : {s : List ℕ} {at : ℕ} {r : Record} → read_at s at ≡ Ok (Some r) → Heads s at r
heads-at {s} {at} e =
    let p = read-places (form_of s) s at e in
    let w = width_some (form_of s) in
    record { headed = p.0; behind = omega arith; lies = p.1; first = listed_at s at ∙ ap (listed_by s) e }

-- ---- what a walk over the records meets at a place: a record, or nothing where none is left that can be read
abbrev pub Listed : List ℕ → ℕ → Maybe Record → Type 0
Listed s at (Some r) = Heads s at r × Short r
Listed s at None = listed s at ≡ []

pub listed-read : {s : List ℕ} {at : ℕ} {x : Reading} → Reads s at x → Listed s at (result_unwrap_or x None)
listed-read {s} {at} {x = Ok (Some r)} reads = (heads-at (sym reads.read), reads.stands.1)
listed-read {s} {at} {x = Ok None} reads = listed_at s at ∙ ap (listed_by s) (sym reads.read)
listed-read {s} {at} {x = Err e} reads = listed_at s at ∙ ap (listed_by s) (sym reads.read)
