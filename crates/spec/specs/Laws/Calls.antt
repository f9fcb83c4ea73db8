-- What an accepting call says of its formula and of its output. Assumes nothing.
--     converted-admitted, converted-fits    the formula was admitted, and what it is converted to fits the output
--     call-converted                        the bytes that a call puts out are what the formula is converted to
--     call-count                            its count is theirs
use Rattle.std.specs.Prelude.{◌≡◌, Bool, List, ℕ, ◌≤◌, ltb, take, drop}
use Rattle.std.proofs.Common.{sym, ap, ap₂, ◌∙◌, ltb-false}
use Rattle.std.proofs.Math.ListN.{length}
use Rattle.std.proofs.Math.Seq.{take-append_seam}
use Rattle.spec.specs.Result.{Result, passed, refused, ◌then◌}
use Rattle.spec.specs.Pipeline.{definitions_or, admitted, typst_to_latex, fitting, converted, answer_of, output_after, Call}
use Rattle.spec.specs.Laws.Result.{unpassed, unrefused, first_passes}
use Rattle.spec.specs.Laws.Admission.{Admitted, admitted-passed}

module _ (formula table : List ℕ) (display : Bool) (field : ℕ) (work output : List ℕ) {x : List ℕ} (e : converted formula table display field work output ≡ passed x) where
  pub converted-admitted : Admitted formula table field work
  unfolding converted
  converted-admitted =
      let to-fitting = first_passes _ (fitting output) e in
      let to-conversion = first_passes _ (typst_to_latex (definitions_or table) display field) to-fitting.is-passed in
      (admitted-passed formula table field work to-conversion.is-passed).1

  pub converted-fits : length x ≤ length output
  unfolding converted
  converted-fits = go (admitted formula table field work then typst_to_latex (definitions_or table) display field) e
    where
      go : (r : Result (List ℕ)) → (r then fitting output) ≡ passed x → length x ≤ length output
      go (refused number) e = absurd (unpassed e)
      go (passed s) e =
          let room = unrefused 10 s (ltb (length output) (length s)) e in
          rw room.0 (ltb-false (length output) (length s) room.1)

module _ {formula table : List ℕ} {display : Bool} {field : ℕ} {work output work' output' : List ℕ} {n : ℕ} (c : Call formula table display field work output (passed n) work' output') where
  pub call-converted : converted formula table display field work output ≡ passed (take n output')
  call-converted = go (converted formula table display field work output) c.answers c.writes
    where
      go : (r : Result (List ℕ)) → passed n ≡ answer_of r → output' ≡ output_after r output → r ≡ passed (take n output')
      go (refused number) e o = absurd (unpassed (sym e))
      go (passed s) e o =
          let count : n ≡ length s = cc in
          ap passed (sym (ap₂ (λ (k : ℕ) (l : List ℕ). take k l) count o ∙ take-append_seam s (drop (length s) output)))

  pub call-count : n ≡ length (take n output')
  call-count = passed-injective (c.answers ∙ ap answer_of call-converted)
    where
      passed-injective : {k m : ℕ} → ◌≡◌ {A = Result ℕ} (passed k) (passed m) → k ≡ m
      passed-injective e = cc
