-- Tables as they were read before there was a wide form: one not begun by 00 gives the same answer and bytes in every call. Assumes nothing.
--     stored_definitions      the records of a table as they were read, or none where number 3 refused it
--     stored_converted        what a call came to
--     stored-call            a table not begun by 00 gives the answer and bytes that it gave
--     stored_refused         number 3 refused every table begun by 00
--     stored-narrow          so none that was accepted is begun by 00
use Rattle.std.specs.Prelude.{◌≡◌, refl, Bool, true, false, cond, List, [], ◌∷◌, ℕ, zero, suc, ◌+◌, eqb, ltb, length, drop}
use Rattle.std.proofs.Common.{sym, ap, ◌∙◌, eqb-true}
use Rattle.std.proofs.Math.Bool.{or-true}
use Rattle.std.proofs.Math.Option.{Option, none, some, map, get_or, none-ne-some}
use Rattle.spec.specs.Symbols.{foreign, any}
use Rattle.spec.specs.Result.{Result, passed, refused, ◌then◌}
use Rattle.spec.specs.Table.{Definition, Form, narrow, wide, form_of, start, narrow_lengths, definition_of, record-before, records_with, records_in, most_bytes, most_records, faulty, whole, definitions}
use Rattle.spec.specs.Finish.{all_tall}
use Rattle.spec.specs.Pipeline.{most_formula, least_work, typst_to_latex, definitions_or, readable, admitted, fitting, converted, answer_of, output_after, work_after, Call}
use Rattle.stage_laws.specs.Answers.{call-as}

unfoldable pub stored_records_with : ℕ → List ℕ → Option (List Definition)
stored_records_with zero s = some []
stored_records_with (suc k) [] = some []
stored_records_with (suc k) (high ∷ []) = none
stored_records_with (suc k) (high ∷ low ∷ rest) =
    let l = narrow_lengths high low in record-before l rest (stored_records_with k (drop (l.name + l.latex) rest))

abbrev pub stored_records : List ℕ → Option (List Definition)
stored_records table = stored_records_with (length table) table

abbrev pub stored_definitions : List ℕ → Option (List Definition)
stored_definitions table = elim (ltb most_bytes (length table)) [ true ↦ none | false ↦ whole (stored_records table) ]

-- numbers 4, 15, 2, 1 as with a table that number 3 can't refuse, then 3
abbrev pub stored_admitted : List ℕ → List ℕ → ℕ → List ℕ → Result (List ℕ)
stored_admitted formula table field work = admitted formula [] field work then (λ s. readable s (stored_definitions table))

abbrev pub stored_converted : List ℕ → List ℕ → Bool → ℕ → List ℕ → List ℕ → Result (List ℕ)
stored_converted formula table display field work output =
    stored_admitted formula table field work then typst_to_latex (get_or (stored_definitions table) []) display field then fitting output

-- ---- not begun by 00
narrow-with : (k : ℕ) (s : List ℕ) → records_with narrow k s ≡ stored_records_with k s
unfolding records_with stored_records_with
narrow-with zero s = refl
narrow-with (suc k) [] = refl
narrow-with (suc k) (high ∷ []) = refl
narrow-with (suc k) (high ∷ low ∷ rest) =
    let l = narrow_lengths high low in ap (record-before l rest) (narrow-with k (drop (l.name + l.latex) rest))

pub definitions-as-stored : (table : List ℕ) → form_of table ≡ narrow → definitions table ≡ stored_definitions table
unfolding definitions records_in
definitions-as-stored table e =
    ap (λ (o : Option (List Definition)). elim (ltb most_bytes (length table)) as (λ _. Option (List Definition)) [ true ↦ none | false ↦ whole o ])
    (ap (λ (form : Form). records_in form (drop (start form) table)) e ∙ narrow-with (length table) table)

admitted-by : (formula table : List ℕ) (field : ℕ) (work : List ℕ) → admitted formula table field work ≡ (admitted formula [] field work then (λ s. readable s (definitions table)))
unfolding definitions
admitted-by formula table field work = go (ltb (length work) least_work) (ltb all_tall field) (ltb most_formula (length formula)) (any foreign formula)
  where
    first : Bool → Bool → Bool → Bool → Result (List ℕ) → Result (List ℕ)
    first a b c d r = elim a [ true ↦ refused 4 | false ↦ elim b [ true ↦ refused 15 | false ↦ elim c [ true ↦ refused 2 | false ↦ elim d [ true ↦ refused 1 | false ↦ r ] ] ] ]

    go : (a b c d : Bool) → first a b c d (readable formula (definitions table)) ≡ (first a b c d (passed formula) then (λ s. readable s (definitions table)))
    go true b c d = refl
    go false true c d = refl
    go false false true d = refl
    go false false false true = refl
    go false false false false = refl

pub converted-as-stored :
    (formula table : List ℕ) (display : Bool) (field : ℕ) (work output : List ℕ) → form_of table ≡ narrow
    → converted formula table display field work output ≡ stored_converted formula table display field work output
unfolding converted
converted-as-stored formula table display field work output e =
    ap (λ r. r then typst_to_latex (definitions_or table) display field then fitting output) (admitted-by formula table field work)
    ∙ ap (λ (ds : Option (List Definition)). admitted formula [] field work then (λ s. readable s ds) then typst_to_latex (get_or ds []) display field then fitting output) (definitions-as-stored table e)

pub stored-call :
    {formula table work output work' output' : List ℕ} {display : Bool} {field : ℕ} {answer : Result ℕ} → form_of table ≡ narrow
    → Call formula table display field work output answer work' output'
    → (let before = stored_converted formula table display field work output in (answer ≡ answer_of before) × ((work' ≡ work_after before work) × (output' ≡ output_after before output)))
stored-call {formula} {table} {work} {output} {display = display} {field} e c = call-as c (converted-as-stored formula table display field work output e)

-- ---- begun by 00: the first name was empty
nameless : (latex : List ℕ) (o : Option (List Definition)) → whole (map (λ (ds : List Definition). record { name = []; latex = latex } ∷ ds) o) ≡ none
unfolding faulty
nameless latex none = refl
nameless latex (some ds) = ap (λ b. cond b none (some (record { name = []; latex = latex } ∷ ds))) (or-true (ltb most_records (suc (length ds))))

pub stored_refused : (s : List ℕ) → stored_definitions (0 ∷ s) ≡ none
unfolding stored_records_with
stored_refused s = go (ltb most_bytes (length (0 ∷ s))) s
  where
    fits : (past : Bool) (latex : List ℕ) (o : Option (List Definition))
        → whole (elim past as (λ _. Option (List Definition)) [ true ↦ none | false ↦ map (λ (ds : List Definition). record { name = []; latex = latex } ∷ ds) o ]) ≡ none
    fits true latex o = refl
    fits false latex o = nameless latex o

    go : (long : Bool) (s : List ℕ) → ◌≡◌ {A = Option (List Definition)} (elim long [ true ↦ none | false ↦ whole (stored_records_with (suc (length s)) (0 ∷ s)) ]) none
    go true s = refl
    go false [] = refl
    go false (low ∷ rest) =
        let l = narrow_lengths 0 low in
        fits (ltb (length rest) (l.name + l.latex)) (definition_of l rest).latex (stored_records_with (suc (length rest)) (drop (l.name + l.latex) rest))

pub stored-narrow : (table : List ℕ) {ds : List Definition} → stored_definitions table ≡ some ds → form_of table ≡ narrow
stored-narrow [] e = refl
stored-narrow (x ∷ s) {ds} e = go (eqb x 0) refl
  where
    go : (b : Bool) → eqb x 0 ≡ b → cond b wide narrow ≡ narrow
    go true f = absurd (none-ne-some ds (sym (stored_refused s) ∙ ap (λ y. stored_definitions (y ∷ s)) (sym (eqb-true x 0 f)) ∙ e))
    go false f = refl
