-- The faults of a table, as the check meets them one after another.
--     overfull         a record can't be read, or with those counted before there are too many
--     faulty_first      a record has a fault of its own, or the name of one of those behind it
-- Assumes nothing.
use Rattle.std.specs.Prelude.{◌≡◌, refl, Bool, true, false, cond, ◌||◌, List, ◌∷◌, ℕ, suc, ◌+◌, ◌≤◌, ◌<◌, ltb, length, drop}
use Rattle.std.proofs.Common.{ap, ap₂, ◌∙◌, zero-add, arith, lt-ltb, le-ltb}
use Rattle.std.proofs.Math.Option.{Option, none, some, map}
use Rattle.spec.specs.Table.{Definition, form_of, most_bytes, most_records, records_in, records, faulty_name, faulty_latex, named, faulty, whole, definitions}
use Rattle.table.specs.Reading.{unreadable, read_at, first_place, records_by, records-at, definition_at}
use Rattle.table.specs.Listed.{listed, listed-records}
use Rattle.table.specs.Sound.{refused}
use Rattle.table.specs.declared.Record.{Record}
use Rattle.std.specs.Prelude.{Some, None, Ok}

abbrev pub overfull : ℕ → Option (List Definition) → Bool
overfull c none = true
overfull c (some ds) = ltb most_records (c + length ds)

abbrev pub faulty_first : Definition → List Definition → Bool
faulty_first d ds = faulty_name d.name || (faulty_latex d.latex || named d.name ds)

-- ---- how many records there are
module _ (s : List ℕ) (at c : ℕ) where
  pub overfull-whole : {r : Record} → read_at s at ≡ Ok (Some r) → overfull c (records_in (form_of s) (drop at s)) ≡ overfull (c + 1) (records_in (form_of s) (drop r.next s))
  overfull-whole {r} e = ap (overfull c) (records-at (form_of s) s at ∙ ap (records_by (form_of s) s) e) ∙ go (records_in (form_of s) (drop r.next s))
    where
      go : (o : Option (List Definition)) → overfull c (map (λ (ds : List Definition). definition_at s r ∷ ds) o) ≡ overfull (c + 1) o
      go none = refl
      go (some ds) = let n : c + suc (length ds) ≡ c + 1 + length ds = omega arith in ap (ltb most_records) n

  pub overfull-end : c ≤ most_records → read_at s at ≡ Ok None → overfull c (records_in (form_of s) (drop at s)) ≡ false
  overfull-end h e = ap (overfull c) (records-at (form_of s) s at ∙ ap (records_by (form_of s) s) e) ∙ le-ltb most_records (c + 0) (omega arith)

  pub overfull-unreadable : read_at s at ≡ unreadable → overfull c (records_in (form_of s) (drop at s)) ≡ true
  overfull-unreadable e = ap (overfull c) (records-at (form_of s) s at ∙ ap (records_by (form_of s) s) e)

  pub overfull-many : most_records < c → overfull c (records_in (form_of s) (drop at s)) ≡ true
  overfull-many h = go (records_in (form_of s) (drop at s))
    where
      go : (o : Option (List Definition)) → overfull c o ≡ true
      go none = refl
      go (some ds) = lt-ltb most_records (c + length ds) (omega arith)

-- ---- the records one after another
pub faulty-cons : (d : Definition) (ds : List Definition) → faulty (d ∷ ds) ≡ (faulty_first d ds || faulty ds)
unfolding faulty
faulty-cons d ds = go (faulty_name d.name) (faulty_latex d.latex)
  where
    go : (a b : Bool) → (a || (b || (named d.name ds || faulty ds))) ≡ ((a || (b || named d.name ds)) || faulty ds)
    go true b = refl
    go false true = refl
    go false false = refl

pub first-by-others : (d : Definition) (ds : List Definition) → faulty_name d.name ≡ false → faulty_latex d.latex ≡ false → faulty_first d ds ≡ named d.name ds
first-by-others d ds e f = ap₂ (λ t u. t || (u || named d.name ds)) e f

-- ---- all of the table
abbrev checked : List ℕ → Bool → Option (List Definition)
checked s t = elim t [ true ↦ none | false ↦ whole (records s) ]

pub refused-long : (s : List ℕ) → most_bytes < length s → refused (definitions s) ≡ true
unfolding definitions
refused-long s h = ap (λ t. refused (checked s t)) (lt-ltb most_bytes (length s) h)

pub refused-else : (s : List ℕ) → length s ≤ most_bytes → refused (definitions s) ≡ (overfull 0 (records s) || faulty (listed s (first_place s)))
unfolding definitions
refused-else s h = ap (λ t. refused (checked s t)) (le-ltb most_bytes (length s) h) ∙ go (records s) refl
  where
    judged : (ds : List Definition) (t : Bool) → refused (cond t none (some ds)) ≡ t
    judged ds true = refl
    judged ds false = refl

    go : (o : Option (List Definition)) → records s ≡ o → refused (whole o) ≡ (overfull 0 o || faulty (listed s (first_place s)))
    go none e = refl
    go (some ds) e = rw (listed-records s ds e, zero-add (length ds)) (judged ds (ltb most_records (length ds) || faulty ds))
