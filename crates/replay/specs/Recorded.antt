-- What a recorded answer says of a call. Assumes nothing.
--     refusal_of    the refusal that a case records by its number
--     recorded    the result that a case records: its LaTeX, or its number
--     Agrees      the answer and the output are those of a result, by the definitions of a call
--     left_by     the work buffer after a call
use Rattle.std.specs.Prelude.{◌≡◌, Bool, true, false, ℕ, suc, ◌<◌, cond, List, [], ◌∷◌, ◌++◌, length, drop, replicate, ◌==◌, slice_index, refl}
use Rattle.std.proofs.Common.{ap, ◌∙◌, arith, ne_eqb}
use Rattle.spec.specs.Result.{Result, passed, refused}
use Rattle.spec.specs.Pipeline.{answer_of, output_after}
use Rattle.text.specs.Stage.{number as numbered, number-between}
use Rattle.text.specs.declared.Refusal.{Refusal}
use Rattle.entry_ends.specs.Answer.{Answer}
use Rattle.std.specs.Prelude.{Ok, Err}
use Rattle.entry_ends.specs.Answer.{meaning}
use Rattle.std.specs.Prelude.{Option as Maybe, Some, None}

-- the refusal that a case records by its number: 0 stands for none
abbrev pub refusal_of : ℕ → Maybe ℕ
refusal_of number = cond (number == 0) None (Some number)

-- so each refusal is read as itself: none has the number 0
pub refusal-read : (why : Refusal) → refusal_of (numbered why) ≡ Some (numbered why)
refusal-read why =
    let some = (number-between why).0 in
    ap (λ (b : Bool). cond b None (Some (numbered why))) (ne_eqb (numbered why) 0 (λ e. omega arith))

abbrev pub recorded : Maybe ℕ → List ℕ → Result (List ℕ)
recorded None latex = passed latex
recorded (Some k) latex = refused k

-- the same by the number
pub recorded-number : (number : ℕ) (latex : List ℕ) → recorded (refusal_of number) latex ≡ cond (number == 0) (passed latex) (refused number)
recorded-number number latex = go (number == 0)
  where
    go : (b : Bool) → recorded (cond b None (Some number)) latex ≡ cond b (passed latex) (refused number)
    go true = refl
    go false = refl

-- the n bytes of the work buffer after such a call: as they were after number 4, and else zero
abbrev pub left_by : Maybe ℕ → List ℕ → ℕ → List ℕ
left_by None old n = replicate n 0
left_by (Some k) old n = cond (k == 4) old (replicate n 0)

pub record Agrees (result : Result (List ℕ)) (answer : Answer) (old output : List ℕ) : Type 0 where
  pub answers : meaning answer ≡ answer_of result
  pub writes : output ≡ output_after result old

-- ---- the two kinds of answers
module _ {answer : Answer} {refusal : Maybe ℕ} (latex : List ℕ) {old output : List ℕ} where
  pub done-agrees : {n : ℕ} → answer ≡ Ok n → (refusal ≡ None) × (n ≡ length latex) × (output ≡ latex ++ drop n old) → Agrees (recorded refusal latex) answer old output
  done-agrees e (done, counted, written) =
      record {
        answers = ap meaning e ∙ rw done (ap passed counted);
        writes = rw done (written ∙ ap (λ (k : ℕ). latex ++ drop k old) counted);
      }

  pub refused-agrees : {why : Refusal} → answer ≡ Err why → (refusal ≡ Some (numbered why)) × (output ≡ old) → Agrees (recorded refusal latex) answer old output
  refused-agrees e (same, kept) = record { answers = ap meaning e ∙ rw same refl; writes = rw same kept }

-- ---- zeros
pub all-zero : (s : List ℕ) → ((k : ℕ) → k < length s → slice_index s k ≡ 0) → s ≡ replicate (length s) 0
all-zero [] h = refl
all-zero (x ∷ s) h = rw (h 0 (omega arith)) (ap (λ (t : List ℕ). 0 ∷ t) (all-zero s (λ k l. h (suc k) (omega arith))))
