-- What stands at a place of a table.
--     read_at           a record, nothing at the table's end, or what can't be read: a header that says nothing, a record that goes past the end
--     Lies, Short      a record's places are in order and in the table; its parts are as long as a header can say
--     Stands           both, of a record that was found
--     definition_at     the name and the LaTeX that lie there
--     records-at       the records from a place on, by what stands there
-- Assumes nothing.
use Rattle.std.proofs.Math.Path.{◌≡◌, refl, ap}
use Rattle.std.proofs.Common.{sym, subst, ap₂, ◌∙◌, drop_of_length-le, drop-drop}
use Rattle.std.specs.Prelude.{Bool, List, [], ◌∷◌, ℕ, ◌+◌, ◌-◌, ◌*◌, ◌/◌, ◌%◌, ◌≤◌, ◌<◌, get_or, drop}
use Rattle.std.proofs.Math.Bool.{true, false, cond}
use Rattle.std.proofs.Math.Option.{Option, none, some, map}
use native.Mathlib.Omega.{arith}
use Rattle.std.proofs.Math.Dec.{leb, ltb}
use Rattle.std.proofs.Math.ListN.{length, length-drop}
use borrow.Author.Tests.{leb-true, leb-false, ltb-false, le-leb, lt-leb, lt-ltb, le-ltb}
use Rattle.spec.specs.Laws.Symbols.{drop-step}
use Rattle.spec.specs.Laws.Table.{width_some, lengths-cut, lengths-long}
use Rattle.spec.specs.Table.{Definition, Form, narrow, wide, form_of, start, width, Lengths, narrow_lengths, wide_lengths, lengths_of, definition_of, record-before, records_behind, records_in}
use Rattle.text_symbols.specs.Parts.{part, length_part}
use Rattle.table.specs.Records.{records-none, records-some}
use Rattle.table.specs.declared.Record.{Record}
use Rattle.table.specs.declared.Unreadable.{Unreadable}
use Rattle.std.specs.Prelude.{Option as Maybe, Some, None, Result as Either, Ok, Err}

-- what the code reads: a record, or nothing at the end. The code's own `Option` and `Result` are other types than those of the definitions
abbrev pub Reading : Type 0
Reading = Either (Maybe Record) Unreadable

abbrev pub unreadable : Reading
unreadable = Err (record {})

-- the record whose name begins at a place
abbrev pub record_of : ℕ → Lengths → Record
record_of name l = record { name = name; latex = name + l.name; next = name + l.name + l.latex }

-- if all of it fits in
abbrev pub fitted : List ℕ → ℕ → Lengths → Reading
fitted s name l = cond (ltb (length s - name) (l.name + l.latex)) unreadable (Ok (Some (record_of name l)))

-- by what the header at a place says
abbrev pub headed : Form → List ℕ → ℕ → Option Lengths → Reading
headed form s at none = unreadable
headed form s at (some l) = fitted s (at + width form) l

unfoldable pub read_in : Form → List ℕ → ℕ → Reading
read_in form s at = cond (leb (length s) at) (Ok None) (headed form s at (lengths_of form (drop at s)))

abbrev pub read_at : List ℕ → ℕ → Reading
read_at s at = read_in (form_of s) s at

-- where the first record begins
abbrev pub first_place : List ℕ → ℕ
first_place s = start (form_of s)

-- what 7 bits and 13 bits can say, the most of either form
abbrev pub most_name : ℕ
most_name = 127

abbrev pub most_latex : ℕ
most_latex = 8191

-- a record's places are in order and in the table
pub record Lies (s : List ℕ) (r : Record) : Type 0 where
  pub named : r.name ≤ r.latex
  pub written : r.latex ≤ r.next
  pub inside : r.next ≤ length s

-- its parts are as long as a header can say
pub record Short (r : Record) : Type 0 where
  pub name : r.latex ≤ r.name + most_name
  pub latex : r.next ≤ r.latex + most_latex

-- both of what was found: it says nothing where there is no record
abbrev pub Stands : List ℕ → Maybe Record → Type 0
Stands s (Some r) = Lies s r × Short r
Stands s None = Unit {0}

-- the same of a reading
abbrev pub ReadingLies : List ℕ → Reading → Type 0
ReadingLies s (Ok o) = Stands s o
ReadingLies s (Err e) = Unit {0}

-- what reading in a form ensures, and `record_at` in the table's own
pub record ReadsIn (form : Form) (s : List ℕ) (at : ℕ) (r : Reading) : Type 0 where
  pub read : r ≡ read_in form s at
  pub stands : ReadingLies s r

abbrev pub Reads : List ℕ → ℕ → Reading → Type 0
Reads s at r = ReadsIn (form_of s) s at r

-- what `record_behind` ensures
pub record Fits (s : List ℕ) (name n l : ℕ) (r : Reading) : Type 0 where
  pub fits : r ≡ fitted s name (record { name = n; latex = l })
  pub stands : ReadingLies s r

pub fits-reads : {form : Form} {s : List ℕ} {at name n l : ℕ} {r : Reading} → Fits s name n l r → read_in form s at ≡ fitted s name (record { name = n; latex = l }) → ReadsIn form s at r
fits-reads f e = record { read = f.fits ∙ sym e; stands = f.stands }

pub stands-found : {s : List ℕ} {o : Maybe Record} {r : Record} → Stands s o → o ≡ Some r → Lies s r × Short r
stands-found {s} stands e = subst (Stands s) e stands

abbrev pub definition_at : List ℕ → Record → Definition
definition_at s r = record { name = part r.name (r.latex - r.name) s; latex = part r.latex (r.next - r.latex) s }

abbrev pub name_at : List ℕ → Record → List ℕ
name_at s r = (definition_at s r).name

pub length-name : {s : List ℕ} {r : Record} → Lies s r → length (definition_at s r).name ≡ r.latex - r.name
length-name {s} {r} l = length_part r.name (r.latex - r.name) s (omega arith)

pub length-latex : {s : List ℕ} {r : Record} → Lies s r → length (definition_at s r).latex ≡ r.next - r.latex
length-latex {s} {r} l = length_part r.latex (r.next - r.latex) s (omega arith)

-- ---- reading by the bytes of the header
pub read-end : (form : Form) (s : List ℕ) (at : ℕ) → length s ≤ at → read_in form s at ≡ (Ok None)
unfolding read_in
read-end form s at h = rw (le-leb (length s) at h)

pub read-header : (form : Form) (s : List ℕ) (at : ℕ) → at < length s → read_in form s at ≡ headed form s at (lengths_of form (drop at s))
unfolding read_in
read-header form s at h = rw (lt-leb (length s) at h)

pub read-cut : (form : Form) (s : List ℕ) (at : ℕ) → at < length s → length s - at < width form → read_in form s at ≡ unreadable
read-cut form s at h few = let l = length-drop at s in read-header form s at h ∙ ap (headed form s at) (lengths-cut form (drop at s) (omega arith))

module _ (s : List ℕ) (at : ℕ) {high : ℕ} (e : high ≡ get_or s at 0) where
  pub read-narrow : {low : ℕ} → low ≡ get_or s (at + 1) 0 → at + 2 ≤ length s → read_in narrow s at ≡ fitted s (at + 2) (narrow_lengths high low)
  read-narrow {low} f more =
      read-header narrow s at (omega arith)
      ∙ ap (λ t. headed narrow s at (lengths_of narrow t)) (drop-step s at (omega arith) ∙ ap₂ (λ (x : ℕ) (t : List ℕ). x ∷ t) (sym e) (drop-step s (at + 1) (omega arith) ∙ ap (λ y. y ∷ drop (at + 1 + 1) s) (sym f)))

  -- the first four bits and the two lengths
  wide-bytes :
      {middle low : ℕ} → middle ≡ get_or s (at + 1) 0 → low ≡ get_or s (at + 2) 0 → at + 3 ≤ length s
      → read_in wide s at ≡ headed wide s at (cond (ltb high 16) (some (wide_lengths high middle low)) none)
  wide-bytes {middle} {low} f g more =
      let second : at + 1 + 1 ≡ at + 2 = omega arith in
      read-header wide s at (omega arith)
      ∙ ap (λ t. headed wide s at (lengths_of wide t))
      (drop-step s at (omega arith)
      ∙ ap₂ (λ (x : ℕ) (t : List ℕ). x ∷ t) (sym e)
      (drop-step s (at + 1) (omega arith)
      ∙ ap₂ (λ (y : ℕ) (t : List ℕ). y ∷ t) (sym f) (ap (λ k. drop k s) second ∙ drop-step s (at + 2) (omega arith) ∙ ap (λ z. z ∷ drop (at + 2 + 1) s) (sym g))))

  pub read-bits : {middle low : ℕ} → middle ≡ get_or s (at + 1) 0 → low ≡ get_or s (at + 2) 0 → at + 3 ≤ length s → 16 ≤ high → read_in wide s at ≡ unreadable
  read-bits {middle} {low} f g more set = wide-bytes f g more ∙ ap (λ b. headed wide s at (cond b (some (wide_lengths high middle low)) none)) (le-ltb high 16 set)

  pub read_wide :
      {middle low : ℕ} → middle ≡ get_or s (at + 1) 0 → low ≡ get_or s (at + 2) 0 → at + 3 ≤ length s → high < 16
      → read_in wide s at ≡ fitted s (at + 3) (wide_lengths high middle low)
  read_wide {middle} {low} f g more clear = wide-bytes f g more ∙ ap (λ b. headed wide s at (cond b (some (wide_lengths high middle low)) none)) (lt-ltb high 16 clear)

-- the same of bytes, by the header as one number, most significant byte first
module _ (s : List ℕ) (at header : ℕ) where
  pub read-narrow-header :
      header ≡ get_or s at 0 * 256 + get_or s (at + 1) 0 → get_or s (at + 1) 0 < 256 → at + 2 ≤ length s
      → read_in narrow s at ≡ fitted s (at + 2) (record { name = header / 1024; latex = header % 1024 })
  read-narrow-header e low more =
      let name : get_or s at 0 / 4 ≡ header / 1024 = omega arith in
      let latex : (get_or s at 0 % 4) * 256 + get_or s (at + 1) 0 ≡ header % 1024 = omega arith in
      read-narrow s at refl refl more ∙ ap₂ (λ (n l : ℕ). fitted s (at + 2) (record { name = n; latex = l })) name latex

  module _ (e : header ≡ get_or s at 0 * 65536 + get_or s (at + 1) 0 * 256 + get_or s (at + 2) 0) (middle : get_or s (at + 1) 0 < 256) (low : get_or s (at + 2) 0 < 256) (more : at + 3 ≤ length s) where
    pub read-header-bits : 1_048_576 ≤ header → read_in wide s at ≡ unreadable
    read-header-bits set = read-bits s at refl refl refl more (omega arith)

    pub read-wide-header : header < 1_048_576 → read_in wide s at ≡ fitted s (at + 3) (record { name = header / 8192; latex = header % 8192 })
    read-wide-header clear =
        let name : get_or s at 0 * 8 + get_or s (at + 1) 0 / 32 ≡ header / 8192 = omega arith in
        let latex : (get_or s (at + 1) 0 % 32) * 256 + get_or s (at + 2) 0 ≡ header % 8192 = omega arith in
        read_wide s at refl refl refl more (omega arith) ∙ ap₂ (λ (n l : ℕ). fitted s (at + 3) (record { name = n; latex = l })) name latex

-- ---- the records from a place on
abbrev pub records_by : Form → List ℕ → Reading → Option (List Definition)
records_by form s (Ok (Some r)) = map (λ (ds : List Definition). definition_at s r ∷ ds) (records_in form (drop r.next s))
records_by form s (Ok None) = some []
records_by form s (Err e) = none

module _ (form : Form) (s : List ℕ) where
  module _ (name : ℕ) (l : Lengths) where
    definition-of : definition_of l (drop name s) ≡ definition_at s (record_of name l)
    definition-of =
        let e : name + l.name - name ≡ l.name = omega arith in
        let f : name + l.name + l.latex - (name + l.name) ≡ l.latex = omega arith in
        rw (e, f, drop-drop l.name name s)

    before_at : record-before l (drop name s) (records_in form (drop (l.name + l.latex) (drop name s))) ≡ records_by form s (fitted s name l)
    before_at = rw (record-before, length-drop name s) (go (ltb (length s - name) (l.name + l.latex)))
      where
        later : Option (List Definition)
        later = records_in form (drop (l.name + l.latex) (drop name s))

        go : (t : Bool)
            → ◌≡◌ {A = Option (List Definition)} (elim t [ true ↦ none | false ↦ map (λ (ds : List Definition). definition_of l (drop name s) ∷ ds) later ]) (records_by form s (cond t unreadable (Ok (Some (record_of name l)))))
        go true = refl
        go false =
            let e : name + (l.name + l.latex) ≡ name + l.name + l.latex = omega arith in
            ap₂ (λ (d : Definition) (o : Option (List Definition)). map (λ (ds : List Definition). d ∷ ds) o) definition-of
            (ap (records_in form) (drop-drop (l.name + l.latex) name s ∙ ap (λ k. drop k s) e))

  module _ (at : ℕ) where
    headed-at : (o : Option Lengths) → records_behind form (drop at s) (records_in form) o ≡ records_by form s (headed form s at o)
    headed-at none = refl
    headed-at (some l) = ap (λ rest. record-before l rest (records_in form (drop (l.name + l.latex) rest))) (drop-drop (width form) at s) ∙ before_at (at + width form) l

    pub records-at : records_in form (drop at s) ≡ records_by form s (read_in form s at)
    unfolding read_in
    records-at = go (leb (length s) at) refl
      where
        go : (t : Bool) → leb (length s) at ≡ t → records_in form (drop at s) ≡ records_by form s (cond t (Ok None) (headed form s at (lengths_of form (drop at s))))
        go true e = ap (records_in form) (drop_of_length-le s (leb-true (length s) at e)) ∙ records-none form
        go false e =
            let l = length-drop at s in let more = leb-false (length s) at e in
            records-some form (drop at s) (omega arith) ∙ headed-at (lengths_of form (drop at s))

    -- a record that is read lies right behind its header, in the table
    pub read-places : {r : Record} → read_in form s at ≡ Ok (Some r) → (r.name ≡ at + width form) × Lies s r
    unfolding read_in
    read-places {r} = go (leb (length s) at) (lengths_of form (drop at s)) refl refl
      where
        fits : (l : Lengths) (t : Bool) → ltb (length s - (at + width form)) (l.name + l.latex) ≡ t → at + width form ≤ length s → 0 < width form
            → cond t unreadable (Ok (Some (record_of (at + width form) l))) ≡ Ok (Some r) → (r.name ≡ at + width form) × Lies s r
        fits l true e h some-header f = let z : ◌≡◌ {A = ℕ} 0 1 = cc in absurd (omega arith)
        fits l false e h some-header f =
            let b = ltb-false (length s - (at + width form)) (l.name + l.latex) e in
            let same : record_of (at + width form) l ≡ r = cc in
            let name = ap (λ (q : Record). q.name) same in
            let latex = ap (λ (q : Record). q.latex) same in
            let next = ap (λ (q : Record). q.next) same in
            (sym name, record { named = omega arith; written = omega arith; inside = omega arith })

        go : (t : Bool) (o : Option Lengths) → leb (length s) at ≡ t → lengths_of form (drop at s) ≡ o → cond t (Ok None) (headed form s at o) ≡ Ok (Some r) → (r.name ≡ at + width form) × Lies s r
        go true o e f g = let z : ◌≡◌ {A = ℕ} 0 1 = cc in absurd (omega arith)
        go false none e f g = let z : ◌≡◌ {A = ℕ} 0 1 = cc in absurd (omega arith)
        go false (some l) e f g =
            let b = leb-false (length s) at e in let d = length-drop at s in let w = lengths-long form (drop at s) f in
            fits l (ltb (length s - (at + width form)) (l.name + l.latex)) refl (omega arith) (width_some form) g
