-- Two tables with the same records, in whatever order, give the same answer and bytes in every call. Assumes nothing.
--     SameRecords        both are read to the end, and the records of one are those of the other
--     CallsAlike         two calls that differ in the table alone answer the same and leave the same bytes
--     definitions-both   number 3 refuses both, or neither
--     calls-alike        so it is where both tables have more than 32,768 bytes, or neither has
--     calls_same         so it is where both are of one form
--     wide-calls-same    so it is where one is narrow and the other wide, if the wide one, which is longer, is not too long
use Rattle.std.specs.Prelude.{◌≡◌, refl, Bool, true, false, ◌||◌, List, ◌⊎◌, ℕ, ◌≤◌, ltb, length}
use Rattle.std.proofs.Common.{sym, ap₂, ◌∙◌, inl, inr, ⊎_elim}
use Rattle.std.proofs.Math.Path.{ap}
use Rattle.std.proofs.Math.Option.{none, some}
use Rattle.spec.specs.Result.{Result, passed, refused, ◌then◌, stage}
use Rattle.spec.specs.Table.{Definition, narrow, wide, form_of, most_bytes, most_records, faulty, definitions, in_order}
use Rattle.spec.specs.Held.{hold_texts, put_back}
use Rattle.spec.specs.Definitions.{apply_definitions, apply_definitions_outside_text}
use Rattle.spec.specs.Finish.{convert_alignment, drop_thin_space_after_commands}
use Rattle.spec.specs.Pipeline.{convert_syntax, typst_to_latex, definitions_or, readable, admitted, fitting, converted, answer_of, output_after, work_after}
use Rattle.spec.specs.Laws.Booleans.{or-neither}
use Rattle.spec.specs.Laws.Order.{in-order-same, Distinct}
use Rattle.spec.specs.Laws.Table.{length-same, faulty-same, sound-distinct, definitions_unless, wrong, definitions-unless, admitted-same}
use Rattle.stage_laws.specs.Stages.{before_definitions}
use Rattle.stage_laws.specs.SameRecords.{SameRecords, CallsAlike, SameLimit}
use Rattle.stage_laws.proofs.SameLimits.{form-limit, wide-limit}

-- ---- only the order of the definitions counts
then_same : {A B : Type 0} (r : Result A) {f g : A → Result B} → ((a : A) → f a ≡ g a) → (r then f) ≡ (r then g)
then_same (passed a) h = h a
then_same (refused number) h = refl

outside-text-order : (ds es : List Definition) (s : List ℕ) → in_order ds ≡ in_order es → apply_definitions_outside_text ds s ≡ apply_definitions_outside_text es s
unfolding apply_definitions_outside_text
outside-text-order ds es s h = ap (λ order. apply_definitions order (hold_texts s) then put_back) h

typst-to-latex-order : (ds es : List Definition) (display : Bool) (field : ℕ) (s : List ℕ) → in_order ds ≡ in_order es → typst_to_latex ds display field s ≡ typst_to_latex es display field s
unfolding typst_to_latex
typst-to-latex-order ds es display field s h =
    ap (λ r. r then convert_syntax display field then stage convert_alignment then stage drop_thin_space_after_commands)
    (then_same (before_definitions s) (λ u. outside-text-order ds es u h))

module _ {table table' : List ℕ} (t : SameRecords table table') where
  wrong-same : wrong t.first ≡ wrong t.second
  wrong-same = ap₂ (λ n b. ltb most_records n || b) (length-same t.rearranged) (faulty-same t.rearranged)

  -- both are refused, or both are sound, and then no name occurs twice
  pub definitions-both :
      SameLimit table table'
      → ((definitions table ≡ none) × (definitions table' ≡ none))
      ⊎ ((definitions table ≡ some t.first) × ((definitions table' ≡ some t.second) × Distinct t.first))
  definitions-both limit =
      rw (definitions-unless table t.first t.read, definitions-unless table' t.second t.read', ← limit, ← wrong-same)
      (go (ltb most_bytes (length table)) (wrong t.first) refl)
    where
      go : (a b : Bool) → wrong t.first ≡ b
          → ((definitions_unless a b t.first ≡ none) × (definitions_unless a b t.second ≡ none))
          ⊎ ((definitions_unless a b t.first ≡ some t.first) × ((definitions_unless a b t.second ≡ some t.second) × Distinct t.first))
      go true b h = inl (refl, refl)
      go false true h = inl (refl, refl)
      go false false h = inr (refl, (refl, sound-distinct t.first (or-neither (ltb most_records (length t.first)) (faulty t.first) h).1))

  -- both are refused, or both have one order
  definitions-same :
      SameLimit table table' → (formula : List ℕ)
      → (readable formula (definitions table) ≡ readable formula (definitions table')) × (in_order (definitions_or table) ≡ in_order (definitions_or table'))
  definitions-same limit formula =
      ⊎_elim (λ n. rw (n.0, n.1) (refl, refl)) (λ s. rw (s.0, s.1.0) (refl, in-order-same t.rearranged s.1.1)) (definitions-both limit)

  -- ---- calls
  module _ (limit : SameLimit table table') where
    pub converted-same :
        (formula : List ℕ) (display : Bool) (field : ℕ) (work output : List ℕ) → converted formula table display field work output ≡ converted formula table' display field work output
    unfolding converted
    converted-same formula display field work output =
        let d = definitions-same limit formula in
        ap (λ r. r then typst_to_latex (definitions_or table) display field then fitting output) (admitted-same formula table table' field work d.0)
        ∙ ap (λ r. r then fitting output) (then_same (admitted formula table' field work) (λ s. typst-to-latex-order (definitions_or table) (definitions_or table') display field s d.1))

    pub calls-alike : CallsAlike table table'
    calls-alike formula work output work' output' work'' output'' display field answer answer' a b =
        let e = converted-same formula display field work output in (
          a.answers ∙ ap answer_of e ∙ sym b.answers,
          (a.clears ∙ ap (λ r. work_after r work) e ∙ sym b.clears, a.writes ∙ ap (λ r. output_after r output) e ∙ sym b.writes),
        )

  pub calls_same : form_of table ≡ form_of table' → CallsAlike table table'
  calls_same e = calls-alike (form-limit t e)

  pub wide-calls-same : form_of table ≡ narrow → form_of table' ≡ wide → length table' ≤ most_bytes → CallsAlike table table'
  wide-calls-same e f short = calls-alike (wide-limit t e f short)
