-- What the steps of a call come to, by what their functions ensure. Assumes nothing.
--     admits-fit               an admitted text is fit for the stages
--     call-narrow, call-made   the whole call
use Rattle.std.specs.Prelude.{◌≡◌, refl, Bool, List, ℕ, ◌≤◌, ◌<◌, length}
use Rattle.std.proofs.Math.Path.{sym, ap}
use Rattle.std.proofs.Common.{◌∙◌, subst, lt-ltb}
use Rattle.std.proofs.Math.ListN.{replicate}
use Rattle.spec.specs.Symbols.{foreign}
use Rattle.spec.specs.Result.{Result, refused, ◌then◌}
use Rattle.spec.specs.Laws.Admission.{Admission, not-admitted, is-admitted, admission}
use Rattle.spec.specs.Pipeline.{least_work, definitions_or, admitted, typst_to_latex, fitting, converted, answer_of, output_after, work_after, Call}
use Rattle.text.specs.Stage.{shown, Answered}
use Rattle.text.specs.Stage.{Progress}
use Rattle.held_laws.specs.Marks.{has_mark}
use Rattle.held_laws.specs.Instances.{any-unmarked, refused-not, passed-one}
use Rattle.stage_laws.specs.Answers.{converted-clears}
use Rattle.stages.specs.Fit.{Admissible}
use Rattle.entry_ends.specs.Answer.{meaning, Admits, PutOut}
use Rattle.entry_ends.specs.Answer.{Answer}

-- ---- admission
pub admits-fit : {formula table : List ℕ} {field : ℕ} {w w' : List ℕ} {p : Progress} → Admits formula table field w w' p → Admissible table (shown p w')
admits-fit {formula} {table} {field} {w} a = subst (Admissible table) (sym a.shows) (go (admission formula table field w))
  where
    go : {r : Result (List ℕ)} → Admission formula table field w r → Admissible table r
    go (not-admitted n) = record { bare = record { unmarked = λ s e. refused-not e }; sound = λ s e. refused-not e }
    go (is-admitted b) =
        record {
          bare = record { unmarked = λ s e. ap has_mark (sym (passed-one e)) ∙ any-unmarked foreign refl refl formula b.no-foreign };
          sound = λ s e. b.read;
        }

-- ---- the call
module _ {formula table work output : List ℕ} {display : Bool} {field : ℕ} where
  pub call-narrow : length work < least_work → Call formula table display field work output (refused 4) work output
  unfolding converted
  call-narrow h =
      let narrow : converted formula table display field work output ≡ refused 4 =
      ap (λ r. r then typst_to_latex (definitions_or table) display field then fitting output) narrow-first in
      record {
        answers = ap answer_of (sym narrow);
        clears = ap (λ r. work_after r work) (sym narrow);
        writes = ap (λ r. output_after r output) (sym narrow);
      }
    where
      narrow-first : admitted formula table field work ≡ refused 4
      narrow-first = rw (lt-ltb (length work) least_work h, admitted)

  pub call-made :
      least_work ≤ length work → {w₁ w₂ work' output' : List ℕ} {p q : Progress} {answer : Answer}
      → Admits formula table field work w₁ p
      → Answered w₁ w₂ p q (typst_to_latex (definitions_or table) display field)
      → PutOut w₂ q answer output output'
      → work' ≡ replicate (length w₂) 0
      → Call formula table display field work output (meaning answer) work' output'
  unfolding converted
  call-made wide {w₂ = w₂} {q = q} a b c e =
      let whole : (shown q w₂ then fitting output) ≡ converted formula table display field work output =
      ap (λ r. r then fitting output) (b.answer ∙ ap (λ r. r then typst_to_latex (definitions_or table) display field) a.shows) in
      record {
        answers = c.answers ∙ ap answer_of whole;
        clears = e ∙ ap (λ n. replicate n 0) (b.long ∙ a.long) ∙ sym (converted-clears formula table display field work output wide);
        writes = c.writes ∙ ap (λ r. output_after r output) whole;
      }
