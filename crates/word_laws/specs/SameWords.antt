-- Two tables with the same records, in whatever order, give the same number and the same bytes for every formula and place: a name occurs at most
-- once in a table that number 3 lets pass. Assumes nothing.
--     latex_for           the LaTeX of the record that has a name
--     latex-for-same     it is the same for the same records in whatever order, where no name occurs twice
--     placed-records     it stands where `latex_place` says
--     words-alike        what is handed back is the same word of the formula, or the same LaTeX, wherever it lies in its table
--     words_same         so the number and the bytes are the same where both tables are of one form,
--     wide-words-same    or where one is narrow and the other wide, if the wide one, which is longer, is not too long
use Rattle.std.specs.Prelude.{◌≡◌, refl, Bool, cond, List, [], ◌∷◌, ◌++◌, ℕ, zero, suc, ◌+◌, ◌-◌, ◌≤◌, ltb, length, take, drop}
use Rattle.std.proofs.Common.{sym, ap, ◌∙◌, subst, ⊎_elim, arith}
use Rattle.std.proofs.Math.Bool.{true, false}
use Rattle.std.proofs.Math.Option.{Option, none, some, get_or, none-ne-some, some-injective}
use Rattle.spec.specs.Symbols.{alnum, foreign, head, any, same}
use Rattle.spec.specs.Result.{Result, passed, refused, ◌then◌}
use Rattle.spec.specs.Table.{Definition, narrow, wide, form_of, start, most_bytes, records, definitions, named, Rearranged, nothing, put}
use Rattle.spec.specs.Pipeline.{most_formula, readable}
use Rattle.spec.specs.WordAt.{WordPart, in_formula, in_table, part_bytes, word_start, word_end, latex_place, stands_for, pointed, word_at, number_of, part_of}
use Rattle.spec.specs.Laws.Booleans.{or-neither}
use Rattle.spec.specs.Laws.Names.{same-eq}
use Rattle.spec.specs.Laws.Order.{named-same, Distinct}
use Rattle.table.specs.Reading.{Reading, first_place, read_at, read-end, length-latex, definition_at, name_at}
use Rattle.table.specs.Listed.{listed, listed_by, listed_at, listed-records, Heads, heads-at}
use Rattle.std.specs.Prelude.{Some, None, Ok, Err}
use Rattle.table_names.specs.Named.{named_here, named-behind}
use Rattle.stage_laws.specs.SameRecords.{SameRecords, SameLimit}
use Rattle.stage_laws.proofs.SameLimits.{form-limit, wide-limit}
use Rattle.stage_laws.proofs.SameRecords.{definitions-both}

abbrev pub latex_for : List ℕ → List Definition → Option (List ℕ)
latex_for name [] = none
latex_for name (d ∷ ds) = elim (same name d.name) [ true ↦ some d.latex | false ↦ latex_for name ds ]

-- ---- the order of the records does not matter
module _ (name : List ℕ) where
  latex-for-here : (d : Definition) (ds : List Definition) → same name d.name ≡ true → latex_for name (d ∷ ds) ≡ some d.latex
  latex-for-here d ds e = rw (e, latex_for)

  latex-for-behind : (d : Definition) (ds : List Definition) → same name d.name ≡ false → latex_for name (d ∷ ds) ≡ latex_for name ds
  latex-for-behind d ds e = rw (e, latex_for)

  module _ (d : Definition) (fs : List Definition) where
    -- the record that has the name, behind others that have not
    put-here : (es : List Definition) → same name d.name ≡ true → named name (es ++ fs) ≡ false → latex_for name (es ++ d ∷ fs) ≡ some d.latex
    put-here [] e h = latex-for-here d fs e
    put-here (c ∷ es) e h =
        let n = or-neither (same name c.name) (named name (es ++ fs)) h in
        latex-for-behind c (es ++ d ∷ fs) n.0 ∙ put-here es e n.1

    -- one that has another name
    put_other : (es : List Definition) → same name d.name ≡ false → latex_for name (es ++ d ∷ fs) ≡ latex_for name (es ++ fs)
    put_other [] e = latex-for-behind d fs e
    put_other (c ∷ es) e = ap (λ later. elim (same name c.name) as (λ _. Option (List ℕ)) [ true ↦ some c.latex | false ↦ later ]) (put_other es e)

  pub latex-for-same : {ds es : List Definition} → Rearranged ds es → Distinct ds → latex_for name ds ≡ latex_for name es
  latex-for-same nothing u = refl
  latex-for-same (put {ds} d es fs r) u = go (same name d.name) refl (latex-for-same r u.1)
    where
      go : (t : Bool) → same name d.name ≡ t → latex_for name ds ≡ latex_for name (es ++ fs) → latex_for name (d ∷ ds) ≡ latex_for name (es ++ d ∷ fs)
      go true e later =
          let once : named name (es ++ fs) ≡ false = ap (λ n. named n (es ++ fs)) (same-eq name d.name e) ∙ sym (named-same r d.name) ∙ u.0 in
          latex-for-here d ds e ∙ sym (put-here d fs es e once)
      go false e later = latex-for-behind d ds e ∙ later ∙ sym (put_other d fs es e)

-- ---- where it lies
-- a part of the table and the bytes that stand there
pub data LatexAt (table : List ℕ) : Option WordPart → Option (List ℕ) → Type 0 where
  nowhere : LatexAt table none none
  placed : {at n : ℕ} {latex : List ℕ} → take n (drop at table) ≡ latex → n ≡ length latex → LatexAt table (some (in_table at n)) (some latex)

module _ (s name : List ℕ) where
  placed-none : (at : ℕ) → listed s at ≡ [] → LatexAt s (latex_place (form_of s) name at (listed s at)) (latex_for name (listed s at))
  placed-none at e = rw e nowhere

  -- k bounds how far the table goes on
  placed_at : (k at : ℕ) → length s ≤ at + k → LatexAt s (latex_place (form_of s) name at (listed s at)) (latex_for name (listed s at))
  placed_at zero at h = placed-none at (listed_at s at ∙ ap (listed_by s) (read-end (form_of s) s at (omega arith)))
  placed_at (suc k) at h = go (read_at s at) refl (placed_at k)
    where
      go : (x : Reading) → read_at s at ≡ x → ((next : ℕ) → length s ≤ next + k → LatexAt s (latex_place (form_of s) name next (listed s next)) (latex_for name (listed s next)))
          → LatexAt s (latex_place (form_of s) name at (listed s at)) (latex_for name (listed s at))
      go (Ok (Some r)) e later = by (same name (name_at s r)) refl
        where
          here : Heads s at r
          here = heads-at e

          by : (t : Bool) → same name (name_at s r) ≡ t → LatexAt s (latex_place (form_of s) name at (listed s at)) (latex_for name (listed s at))
          by true f =
              rw (named_here here name f, here.first, latex-for-here name (definition_at s r) (listed s r.next) f) (placed refl (sym (length-latex here.lies)))
          by false f =
              let b = here.behind in let l = here.lies in
              rw (named-behind here name f, here.first, latex-for-behind name (definition_at s r) (listed s r.next) f) (later r.next (omega arith))
      go (Ok None) e later = placed-none at (listed_at s at ∙ ap (listed_by s) e)
      go (Err u) e later = placed-none at (listed_at s at ∙ ap (listed_by s) e)

  pub placed-records : (ds : List Definition) → records s ≡ some ds → LatexAt s (latex_place (form_of s) name (start (form_of s)) ds) (latex_for name ds)
  placed-records ds e = rw (← listed-records s ds e) (placed_at (length s) (first_place s) (omega arith))

-- ---- what is handed back
pub data WordsAlike (table table' : List ℕ) : Result WordPart → Result WordPart → Type 0 where
  numbers : (number : ℕ) → WordsAlike table table' (refused number) (refused number)
  words : (at n : ℕ) → WordsAlike table table' (passed (in_formula at n)) (passed (in_formula at n))
  latexes : {at at' : ℕ} (n : ℕ) → take n (drop at table) ≡ take n (drop at' table') → WordsAlike table table' (passed (in_table at n)) (passed (in_table at' n))

-- for every formula and place the same number, and the same bytes
abbrev pub AnswersAlike : List ℕ → List ℕ → Type 0
AnswersAlike table table' =
    (formula : List ℕ) (place : ℕ)
    → (number_of (word_at formula table place) ≡ number_of (word_at formula table' place))
    × (part_bytes formula table (part_of (word_at formula table place)) ≡ part_bytes formula table' (part_of (word_at formula table' place)))

module _ {table table' : List ℕ} (t : SameRecords table table') where
  module _ (formula : List ℕ) (distinct : Distinct t.first) (d : definitions table ≡ some t.first) (d' : definitions table' ≡ some t.second) where
    stands_alike : (at n : ℕ) → WordsAlike table table' (passed (stands_for formula table at n)) (passed (stands_for formula table' at n))
    stands_alike at n =
        rw (d, d')
        (by (ltb n 2) (placed-records table name t.first t.read) (placed-records table' name t.second t.read') (latex-for-same name t.rearranged distinct))
      where
        name : List ℕ
        name = take n (drop at formula)

        by : (short : Bool) {o o' : Option WordPart} {l l' : Option (List ℕ)} → LatexAt table o l → LatexAt table' o' l' → l ≡ l'
            → WordsAlike table table' (passed (cond short (in_formula at n) (get_or o (in_formula at n)))) (passed (cond short (in_formula at n) (get_or o' (in_formula at n))))
        by true p p' e = words at n
        by false nowhere nowhere e = words at n
        by false nowhere (placed {latex = latex} b c) e = absurd (none-ne-some latex e)
        by false (placed {latex = latex} b c) nowhere e = absurd (none-ne-some latex (sym e))
        by false (placed {at = from} {n = m} {latex = latex} b c) (placed {at = from'} {n = m'} {latex = latex'} b' c') e =
            let alike = some-injective latex latex' e in
            let long : m ≡ m' = c ∙ ap length alike ∙ sym c' in
            subst (λ k. WordsAlike table table' (passed (in_table from m)) (passed (in_table from' k))) long
            (latexes m (b ∙ alike ∙ sym (ap (λ k. take k (drop from' table')) long ∙ b')))

    pointed-alike : (place : ℕ) → WordsAlike table table' (pointed table place formula) (pointed table' place formula)
    pointed-alike place = by (alnum (head (drop place formula)))
      where
        at : ℕ
        at = word_start formula place

        by : (t : Bool)
            → WordsAlike table table' (cond t (passed (stands_for formula table at (word_end formula place - at))) (refused 16)) (cond t (passed (stands_for formula table' at (word_end formula place - at))) (refused 16))
        by true = stands_alike at (word_end formula place - at)
        by false = numbers 16

  module _ (limit : SameLimit table table') (formula : List ℕ) (place : ℕ) where
    admitted-alike : WordsAlike table table' (readable formula (definitions table) then pointed table place) (readable formula (definitions table') then pointed table' place)
    admitted-alike = ⊎_elim (λ n. by n.0 n.1 (numbers 3)) (λ s. by s.0 s.1.0 (pointed-alike formula s.1.1 s.0 s.1.0 place)) (definitions-both t limit)
      where
        by : {o o' : Option (List Definition)} → definitions table ≡ o → definitions table' ≡ o'
            → WordsAlike table table' (readable formula o then pointed table place) (readable formula o' then pointed table' place)
            → WordsAlike table table' (readable formula (definitions table) then pointed table place) (readable formula (definitions table') then pointed table' place)
        by {o} e e' w =
            subst (λ x. WordsAlike table table' (readable formula x then pointed table place) (readable formula (definitions table') then pointed table' place)) (sym e)
            (subst (λ x. WordsAlike table table' (readable formula o then pointed table place) (readable formula x then pointed table' place)) (sym e') w)

    pub words-alike : WordsAlike table table' (word_at formula table place) (word_at formula table' place)
    unfolding word_at
    words-alike = by (ltb most_formula (length formula)) (any foreign formula)
      where
        by : (a b : Bool)
            → WordsAlike table table'
            (elim a as (λ _. Result (List ℕ)) [ true ↦ refused 2 | false ↦ elim b as (λ _. Result (List ℕ)) [ true ↦ refused 1 | false ↦ readable formula (definitions table) ] ] then pointed table place)
            (elim a as (λ _. Result (List ℕ)) [ true ↦ refused 2 | false ↦ elim b as (λ _. Result (List ℕ)) [ true ↦ refused 1 | false ↦ readable formula (definitions table') ] ] then pointed table' place)
        by true b = numbers 2
        by false true = numbers 1
        by false false = admitted-alike

  pub answers-alike : SameLimit table table' → AnswersAlike table table'
  answers-alike limit formula place = go (words-alike limit formula place)
    where
      go : {r r' : Result WordPart} → WordsAlike table table' r r' → (number_of r ≡ number_of r') × (part_bytes formula table (part_of r) ≡ part_bytes formula table' (part_of r'))
      go (numbers number) = (refl, refl)
      go (words at n) = (refl, refl)
      go (latexes n e) = (refl, e)

  pub words_same : form_of table ≡ form_of table' → AnswersAlike table table'
  words_same e = answers-alike (form-limit t e)

  pub wide-words-same : form_of table ≡ narrow → form_of table' ≡ wide → length table' ≤ most_bytes → AnswersAlike table table'
  wide-words-same e f short = answers-alike (wide-limit t e f short)
