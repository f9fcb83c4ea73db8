-- Calls on plain formulas, with display on and a table of no records, whatever the tall field and whatever buffers are lent.
--     no-records        a table of no records has no bytes, or the byte 00 alone
--     call-prints       an accepting call puts out the formula's LaTeX
--     call-accepts      a call within the limits accepts
--     call-within       and no other
--     accepting-call    there are such calls
--     calls-apart       two accepting calls, under one field or two, that put out the same bytes had the same formula
--     calls-by-frac     accepting calls on one formula put out the same bytes where their fields have the same bit of `\frac`
use Rattle.std.specs.Prelude.{◌≡◌, refl, Bool, false, cond, List, [], ◌∷◌, ◌++◌, ◌⊎◌, ℕ, suc, ◌+◌, eqb, ltb, length, take, drop, replicate}
use Rattle.std.proofs.Common.{sym, ap, ◌∙◌, subst, inl, inr, arith, eqb-true, le-ltb}
use Rattle.std.proofs.Math.Bool.{true}
use Rattle.std.proofs.Math.Option.{Option, get_or}
use Rattle.spec.specs.Symbols.{all}
use Rattle.spec.specs.Result.{Result, passed, ◌then◌}
use Rattle.spec.specs.Table.{Definition, narrow, wide, form_of, start, definitions}
use Rattle.spec.specs.Finish.{all_tall, frac_bit}
use Rattle.spec.specs.Pipeline.{typst_to_latex, most_formula, least_work, definitions_or, checked, admitted, fitting, converted, answer_of, output_after, work_after, Call}
use Rattle.spec.specs.Grammar
use Rattle.spec.specs.Grammar.{Plain}
use Rattle.spec.specs.Laws.Result.{unrefused, first_passes}
use Rattle.spec.specs.Laws.Admission.{admitted-passed}
use Rattle.spec.specs.Laws.Calls.{converted-admitted, converted-fits, call-converted}
use Rattle.spec.specs.Laws.Table.{records-long, definitions-some}
use Rattle.plain_printing.specs.Tree.{typst_style}
use Rattle.plain_printing.proofs.Alphabet.{plain_symbol, all_plain, not-foreign}
use Rattle.plain_printing.specs.Yields.{Yields, yields-weaken, then-yields, then-passes}
use Rattle.plain_printing.proofs.TreeOf.{tree_of}
use Rattle.plain_printing.proofs.TreeTexts.{text-tree}
use Rattle.plain_printing.proofs.Sums.{SumFits, sum-yields, sum_fits, sums_apart, latex-by-frac}
use Rattle.plain_printing.specs.Calls.{NoRecords, latex_of, WithinLimits}

-- there are two: one of no bytes, and the byte 00 of the wide form alone
pub empty-table : NoRecords []
unfolding definitions
empty-table = refl

pub wide-empty-table : NoRecords (0 ∷ [])
unfolding definitions
wide-empty-table = refl

pub no-records : (table : List ℕ) → NoRecords table → (table ≡ []) ⊎ (table ≡ 0 ∷ [])
no-records table h = go table (records-long table [] (definitions-some table [] h).0)
  where
    go : (table : List ℕ) → length table ≡ start (form_of table) + 0 → (table ≡ []) ⊎ (table ≡ 0 ∷ [])
    go [] e = inl refl
    go (x ∷ s) e = by_form (eqb x 0) refl s e
      where
        by_form : (b : Bool) → eqb x 0 ≡ b → (s : List ℕ) → suc (length s) ≡ start (cond b wide narrow) + 0
            → (x ∷ s ≡ []) ⊎ (x ∷ s ≡ 0 ∷ [])
        by_form true f [] e = inr (ap (λ y. y ∷ []) (eqb-true x 0 f))
        by_form true f (y ∷ s) e = absurd (omega arith)
        by_form false f s e = absurd (omega arith)

pub none_or : (table : List ℕ) → NoRecords table → definitions_or table ≡ []
none_or table h = ap (λ (ds : Option (List Definition)). get_or ds []) h

module _ {formula : List ℕ} (p : Plain formula) (table : List ℕ) (empty : NoRecords table) (field : ℕ) (work output : List ℕ) where
  symbols-plain : all plain_symbol formula ≡ true
  symbols-plain = rw (← p.reads, ← text-tree p.sum p.is-proper) (all_plain typst_style 0 (tree_of p.sum))

  admitted-yields : Yields (WithinLimits field p work output) (admitted formula table field work) formula
  admitted-yields =
      record {
        passes-only = λ x e. (admitted-passed formula table field work e).0;
        passes = λ w. rw (
          le-ltb (length work) least_work w.work-wide,
          admitted,
          le-ltb all_tall field w.field-small,
          le-ltb most_formula (length formula) p.short,
          checked,
          not-foreign formula symbols-plain,
          empty,
        );
      }

  conversion-yields : Yields (WithinLimits field p work output) (typst_to_latex (definitions_or table) true field formula) (latex_of field p)
  conversion-yields =
      rw (none_or table empty)
      (subst (λ (f : List ℕ). Yields (WithinLimits field p work output) (typst_to_latex [] true field f) (latex_of field p)) p.reads
      (yields-weaken (λ (w : WithinLimits field p work output). record { shallow = w.shallow; short = w.latex-short }) (sum-yields field p.sum p.is-proper)))

  conversion-fits : {x : List ℕ} → typst_to_latex (definitions_or table) true field formula ≡ passed x → SumFits field p.sum
  conversion-fits e = sum_fits field p.sum p.is-proper (rw (none_or table empty, ← p.reads) at e)

  fitting-yields : Yields (WithinLimits field p work output) (fitting output (latex_of field p)) (latex_of field p)
  fitting-yields =
      record {
        passes-only = λ x e. (unrefused 10 (latex_of field p) (ltb (length output) (length (latex_of field p))) e).0;
        passes = λ w. rw (le-ltb (length output) (length (latex_of field p)) w.output-long);
      }

  printed-yields : Yields (WithinLimits field p work output) (admitted formula table field work then typst_to_latex (definitions_or table) true field) (latex_of field p)
  printed-yields = then-yields _ (typst_to_latex (definitions_or table) true field) admitted-yields conversion-yields

  converted-yields : Yields (WithinLimits field p work output) (converted formula table true field work output) (latex_of field p)
  unfolding converted
  converted-yields = then-yields _ (fitting output) printed-yields fitting-yields

  pub converted-prints : (x : List ℕ) → converted formula table true field work output ≡ passed x → x ≡ latex_of field p
  converted-prints = converted-yields.passes-only

  pub converted-accepts : WithinLimits field p work output → converted formula table true field work output ≡ passed (latex_of field p)
  converted-accepts = converted-yields.passes

  pub converted-within : {x : List ℕ} → converted formula table true field work output ≡ passed x → WithinLimits field p work output
  unfolding converted
  converted-within {x} e =
      let to-fitting = first_passes _ (fitting output) e in
      let fits = conversion-fits (then-passes _ (typst_to_latex (definitions_or table) true field) admitted-yields to-fitting.is-passed) in
      let admits = converted-admitted formula table true field work output e in
      record {
        work-wide = admits.work-wide;
        field-small = admits.field-known;
        shallow = fits.shallow;
        latex-short = fits.short;
        output-long = rw (converted-prints x e) at (converted-fits formula table true field work output e);
      }

-- ---- calls: the answer is a byte count, and the output is the bytes from the start of the buffer, as many as it says
module _ {formula : List ℕ} (p : Plain formula) (table : List ℕ) (empty : NoRecords table) {field : ℕ} {work output work' output' : List ℕ} where
  pub call-prints : {n : ℕ} → Call formula table true field work output (passed n) work' output' → take n output' ≡ latex_of field p
  call-prints {n} c = converted-prints p table empty field work output (take n output') (call-converted c)

  pub call-accepts : WithinLimits field p work output → {answer : Result ℕ} → Call formula table true field work output answer work' output' → answer ≡ passed (length (latex_of field p))
  call-accepts w c = c.answers ∙ ap answer_of (converted-accepts p table empty field work output w)

  pub call-within : {n : ℕ} → Call formula table true field work output (passed n) work' output' → WithinLimits field p work output
  call-within c = converted-within p table empty field work output (call-converted c)

pub accepting-call : {formula : List ℕ} (p : Plain formula) (table : List ℕ) → NoRecords table → (field : ℕ) (work output : List ℕ) → WithinLimits field p work output
    → Call formula table true field work output (passed (length (latex_of field p))) (replicate (length work) 0) (latex_of field p ++ drop (length (latex_of field p)) output)
accepting-call {formula} p table empty field work output w =
    let accepted : converted formula table true field work output ≡ passed (latex_of field p) = converted-accepts p table empty field work output w in
    record {
      answers = ap answer_of (sym accepted);
      clears = ap (λ r. work_after r work) (sym accepted);
      writes = ap (λ r. output_after r output) (sym accepted);
    }

-- two calls under one field, or under two, each with a table of no records and with buffers of its own
pub calls-apart : {formula formula₁ : List ℕ} → Plain formula → Plain formula₁ → (table table₁ : List ℕ) → NoRecords table → NoRecords table₁
    → {field field₁ : ℕ} {work output work' output' work₁ output₁ work₁' output₁' : List ℕ} {n m : ℕ}
    → Call formula table true field work output (passed n) work' output'
    → Call formula₁ table₁ true field₁ work₁ output₁ (passed m) work₁' output₁'
    → take n output' ≡ take m output₁'
    → formula ≡ formula₁
calls-apart p q table table₁ h k {field} {field₁} c d e =
    sym p.reads ∙ sums_apart field field₁ p.sum q.sum p.is-proper q.is-proper (sym (call-prints p table h c) ∙ e ∙ call-prints q table₁ k d) ∙ q.reads

-- under two fields: of the five commands only `\frac` can stand in a plain formula's LaTeX (`only-frac-sum`)
pub calls-by-frac : {formula : List ℕ} → Plain formula → (table table₁ : List ℕ) → NoRecords table → NoRecords table₁
    → {field field₁ : ℕ} {work output work' output' work₁ output₁ work₁' output₁' : List ℕ} {n m : ℕ} → frac_bit field ≡ frac_bit field₁
    → Call formula table true field work output (passed n) work' output'
    → Call formula table₁ true field₁ work₁ output₁ (passed m) work₁' output₁'
    → take n output' ≡ take m output₁'
calls-by-frac p table table₁ h k {field} {field₁} e c d = call-prints p table h c ∙ latex-by-frac field field₁ e p.sum ∙ sym (call-prints p table₁ k d)
