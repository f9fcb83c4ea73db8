-- Laws of tables: what does not depend on the order of their records, and what number 3 and admission make of them. Assumes nothing.
--     records-long          a table is as long as its form makes its records
--     bytes-wide            the wide form takes a byte more for each record
--     bytes_same, length-same, faulty-same    the same records in whatever order are as long, as many and as faulty
--     definitions-unless    number 3, by the records
--     definitions-some      the definitions of a table are its records, none of them faulty
--     admitted-same         of the table, admission asks only whether it is readable
--     sound-distinct        no name of a sound table occurs twice
--     sound-name-some       a sound name is not empty
use Rattle.std.specs.Prelude.{◌≡◌, refl, Bool, true, false, cond, ◌||◌, List, [], ◌∷◌, ◌++◌, ℕ, zero, suc, ◌+◌, ◌≤◌, ◌<◌, eqb, ltb, length, drop}
use Rattle.std.proofs.Common.{sym, ap, ap₂, ◌∙◌, true≢false, arith, length-take, length-drop, ltb-false}
use Rattle.std.proofs.Math.Bool.{or-true}
use Rattle.std.proofs.Math.Option.{Option, none, some, map, none-ne-some, some-injective}
use Rattle.std.proofs.Math.Decide.{dec_lt}
use Rattle.spec.specs.Symbols.{any, foreign, same}
use Rattle.spec.specs.Result.{Result, refused}
use Rattle.spec.specs.Table.{
  Definition,
  most_bytes,
  most_records,
  Form,
  narrow,
  wide,
  form_of,
  start,
  width,
  Lengths,
  lengths_of,
  definition_of,
  records_behind,
  records_with,
  records_in,
  records,
  faulty_name,
  faulty_latex,
  named,
  faulty,
  whole,
  definitions,
  Rearranged,
  nothing,
  put,
}
use Rattle.spec.specs.Finish.{all_tall}
use Rattle.spec.specs.Pipeline.{most_formula, least_work, readable, admitted}
use Rattle.spec.specs.Laws.Booleans.{or-neither}
use Rattle.spec.specs.Laws.Names.{same-sym}
use Rattle.spec.specs.Laws.Order.{named_put, named-same, Distinct}

-- ---- how long it is
-- the bytes of records: a header, the name, the LaTeX
abbrev pub bytes_of_records : Form → List Definition → ℕ
bytes_of_records form [] = 0
bytes_of_records form (d ∷ ds) = width form + (length d.name + length d.latex) + bytes_of_records form ds

pub bytes-wide : (ds : List Definition) → bytes_of_records wide ds ≡ bytes_of_records narrow ds + length ds
bytes-wide [] = refl
bytes-wide (d ∷ ds) = let h = bytes-wide ds in omega arith

bytes-put : (form : Form) (d : Definition) (es fs : List Definition) → bytes_of_records form (es ++ d ∷ fs) ≡ bytes_of_records form (d ∷ (es ++ fs))
bytes-put form d [] fs = refl
bytes-put form d (e ∷ es) fs = let h = bytes-put form d es fs in omega arith

pub bytes_same : (form : Form) {ds es : List Definition} → Rearranged ds es → bytes_of_records form ds ≡ bytes_of_records form es
bytes_same form nothing = refl
bytes_same form (put d es fs r) = ap (λ n. width form + (length d.name + length d.latex) + n) (bytes_same form r) ∙ sym (bytes-put form d es fs)

length-put : (d : Definition) (es fs : List Definition) → length (es ++ d ∷ fs) ≡ suc (length (es ++ fs))
length-put d [] fs = refl
length-put d (e ∷ es) fs = ap suc (length-put d es fs)

pub length-same : {ds es : List Definition} → Rearranged ds es → length ds ≡ length es
length-same nothing = refl
length-same (put d es fs r) = ap suc (length-same r) ∙ sym (length-put d es fs)

-- a header that is cut off is not read, and so one that is read is whole
pub lengths-cut : (form : Form) (s : List ℕ) → length s < width form → lengths_of form s ≡ none
lengths-cut narrow [] h = refl
lengths-cut narrow (x ∷ []) h = refl
lengths-cut narrow (x ∷ y ∷ s) h = absurd (omega arith)
lengths-cut wide [] h = refl
lengths-cut wide (x ∷ []) h = refl
lengths-cut wide (x ∷ y ∷ []) h = refl
lengths-cut wide (x ∷ y ∷ z ∷ s) h = absurd (omega arith)

pub lengths-long : (form : Form) (s : List ℕ) {l : Lengths} → lengths_of form s ≡ some l → width form ≤ length s
lengths-long form s {l} e = go (dec_lt (length s) (width form))
  where
    go : Dec (length s < width form) → width form ≤ length s
    go (yes h) = absurd (none-ne-some l (sym (lengths-cut form s h) ∙ e))
    go (no h) = omega arith

pub width_some : (form : Form) → 0 < width form
width_some narrow = omega arith
width_some wide = omega arith

start-within : (table : List ℕ) → start (form_of table) ≤ length table
start-within [] = omega arith
start-within (x ∷ table) = go (eqb x 0)
  where
    go : (b : Bool) → start (cond b wide narrow) ≤ suc (length table)
    go true = omega arith
    go false = omega arith

records-with-long : (form : Form) (k : ℕ) (s : List ℕ) (ds : List Definition) → length s ≤ k → records_with form k s ≡ some ds → length s ≡ bytes_of_records form ds
unfolding records_with
records-with-long form zero [] ds h e = let q : [] ≡ ds = cc in ap (bytes_of_records form) q
records-with-long form zero (x ∷ s) ds h e = absurd (omega arith)
records-with-long form (suc k) [] ds h e = let q : [] ≡ ds = cc in ap (bytes_of_records form) q
records-with-long form (suc k) (x ∷ s) ds h e = by-header (lengths_of form (x ∷ s)) refl (records-with-long form k) e
  where
    by-header : (o : Option Lengths) → lengths_of form (x ∷ s) ≡ o
        → ((t : List ℕ) (es : List Definition) → length t ≤ k → records_with form k t ≡ some es → length t ≡ bytes_of_records form es)
        → records_behind form (x ∷ s) (λ t. records_with form k t) o ≡ some ds → suc (length s) ≡ bytes_of_records form ds
    by-header none r later e = absurd (none-ne-some ds e)
    by-header (some l) r later e = go (ltb (length rest) n) refl (records_with form k (drop n rest)) refl e
      where
        n : ℕ
        n = l.name + l.latex

        rest : List ℕ
        rest = drop (width form) (x ∷ s)

        go : (past : Bool) → ltb (length rest) n ≡ past → (o : Option (List Definition)) → records_with form k (drop n rest) ≡ o
            → elim past as (λ _. Option (List Definition)) [ true ↦ none | false ↦ map (λ (es : List Definition). definition_of l rest ∷ es) o ] ≡ some ds
            → suc (length s) ≡ bytes_of_records form ds
        go true p o q e = absurd (none-ne-some ds e)
        go false p none q e = absurd (none-ne-some ds e)
        go false p (some es) q e =
            let fits = ltb-false (length rest) n p in
            let long = lengths-long form (x ∷ s) r in
            let some-header = width_some form in
            let m = length-drop (width form) (x ∷ s) in
            let d = length-drop n rest in
            let a = length-take l.name rest in
            let b = length-take l.latex (drop l.name rest) in
            let c = length-drop l.name rest in
            let rest-long = later (drop n rest) es (omega arith) q in
            let same : definition_of l rest ∷ es ≡ ds = cc in
            let whole : suc (length s) ≡ bytes_of_records form (definition_of l rest ∷ es) = omega arith in
            whole ∙ ap (bytes_of_records form) same

pub records-long : (table : List ℕ) (ds : List Definition) → records table ≡ some ds → length table ≡ start (form_of table) + bytes_of_records (form_of table) ds
unfolding records_in
records-long table ds e =
    let behind = drop (start (form_of table)) table in
    let l = length-drop (start (form_of table)) table in let s = start-within table in
    let b = records-with-long (form_of table) (length behind) behind ds (omega arith) e in
    omega arith

-- ---- its faults
faults-swap : (a b s m c d n f : Bool) → a || (b || ((s || m) || (c || (d || (n || f))))) ≡ c || (d || ((s || n) || (a || (b || (m || f)))))
faults-swap true b s m c d n f = simp or-true
faults-swap false true s m c d n f = simp or-true
faults-swap false false true m c d n f = simp or-true
faults-swap false false false true c d n f = simp or-true
faults-swap false false false false c d n f = refl

faulty-put : (d : Definition) (es fs : List Definition) → faulty (es ++ d ∷ fs) ≡ faulty (d ∷ (es ++ fs))
unfolding faulty
faulty-put d [] fs = refl
faulty-put d (e ∷ es) fs =
    ap₂ (λ known later. faulty_name e.name || (faulty_latex e.latex || (known || later))) (named_put e.name d es fs) (faulty-put d es fs)
    ∙ faults-swap (faulty_name e.name) (faulty_latex e.latex) (same e.name d.name) (named e.name (es ++ fs)) (faulty_name d.name)
    (faulty_latex d.latex) (named d.name (es ++ fs)) (faulty (es ++ fs))
    ∙ ap (λ t. faulty_name d.name || (faulty_latex d.latex || ((t || named d.name (es ++ fs)) || faulty (e ∷ (es ++ fs))))) (same-sym e.name d.name)

pub faulty-same : {ds es : List Definition} → Rearranged ds es → faulty ds ≡ faulty es
unfolding faulty
faulty-same nothing = refl
faulty-same (put d es fs r) =
    ap₂ (λ known later. faulty_name d.name || (faulty_latex d.latex || (known || later))) (named-same r d.name) (faulty-same r) ∙ sym (faulty-put d es fs)

pub sound-distinct : (ds : List Definition) → faulty ds ≡ false → Distinct ds
unfolding faulty
sound-distinct [] e = tt
sound-distinct (d ∷ ds) e =
    let latex = (or-neither (faulty_name d.name) (faulty_latex d.latex || (named d.name ds || faulty ds)) e).1 in
    let rest = (or-neither (faulty_latex d.latex) (named d.name ds || faulty ds) latex).1 in
    ((or-neither (named d.name ds) (faulty ds) rest).0, sound-distinct ds (or-neither (named d.name ds) (faulty ds) rest).1)

-- what `definitions` makes of records, by whether the table is too long and whether they are too many or faulty
abbrev pub definitions_unless : Bool → Bool → List Definition → Option (List Definition)
definitions_unless long wrong ds = elim long [ true ↦ none | false ↦ cond wrong none (some ds) ]

abbrev pub wrong : List Definition → Bool
wrong ds = ltb most_records (length ds) || faulty ds

pub definitions-unless : (s : List ℕ) (ds : List Definition) → records s ≡ some ds → definitions s ≡ definitions_unless (ltb most_bytes (length s)) (wrong ds) ds
unfolding definitions
definitions-unless s ds e = ap (λ o. elim (ltb most_bytes (length s)) as (λ _. Option (List Definition)) [ true ↦ none | false ↦ whole o ]) e

pub definitions-some : (s : List ℕ) (ds : List Definition) → definitions s ≡ some ds → (records s ≡ some ds) × (faulty ds ≡ false)
unfolding definitions
definitions-some s ds e = go (ltb most_bytes (length s)) (records s) refl e
  where
    kept : (es : List Definition) (many wrong : Bool) → cond (many || wrong) none (some es) ≡ some ds → (es ≡ ds) × (wrong ≡ false)
    kept es true wrong e = absurd (none-ne-some ds e)
    kept es false true e = absurd (none-ne-some ds e)
    kept es false false e = (some-injective es ds e, refl)

    go : (long : Bool) (o : Option (List Definition)) → records s ≡ o → ◌≡◌ {A = Option (List Definition)} (elim long [ true ↦ none | false ↦ whole o ]) (some ds) → (records s ≡ some ds) × (faulty ds ≡ false)
    go true o r e = absurd (none-ne-some ds e)
    go false none r e = absurd (none-ne-some ds e)
    go false (some es) r e = let k = kept es (ltb most_records (length es)) (faulty es) e in (r ∙ ap some k.0, ap faulty (sym k.0) ∙ k.1)

-- of the table, admission asks only whether it is readable
pub admitted-same :
    (formula table table' : List ℕ) (field : ℕ) (work : List ℕ) → readable formula (definitions table) ≡ readable formula (definitions table')
    → admitted formula table field work ≡ admitted formula table' field work
admitted-same formula table table' field work e =
    ap (λ r. elim (ltb (length work) least_work) as (λ _. Result (List ℕ)) [ true ↦ refused 4 | false ↦ elim (ltb all_tall field) as (λ _. Result (List ℕ)) [ true ↦ refused 15 | false ↦ r ] ])
    (ap (λ r. elim (ltb most_formula (length formula)) as (λ _. Result (List ℕ)) [
      | true ↦ refused 2
      | false ↦ elim (any foreign formula) as (λ _. Result (List ℕ)) [ true ↦ refused 1 | false ↦ r ]
    ]) e)

-- ---- names
pub sound-name-some : (name : List ℕ) → faulty_name name ≡ false → 0 < length name
sound-name-some [] e = absurd (true≢false e)
sound-name-some (x ∷ name) e = omega arith
