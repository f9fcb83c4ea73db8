-- What a call answers and leaves, and the numbers that it can give. Assumes nothing.
--     call-as             the answer and the bytes, by what the call comes to
--     converted-clears    a work buffer that is wide enough is left all zero
--     never-six           no call gives 6
--     ten-or-fifteen      no call gives a number above 10 but 15
--     tall-field          a call gives 15 where the work buffer is wide enough and the tall field is above 31
--     tall-field-only     and only there
use Rattle.std.specs.Prelude.{◌≡◌, refl, Bool, true, false, not, cond, ◌&&◌, ◌||◌, List, ◌⊎◌, ℕ, ◌≤◌, ◌<◌, eqb, ltb, length, replicate}
use Rattle.std.proofs.Common.{sym, ◌∙◌, true≢false, inl, inr, arith}
use Rattle.std.proofs.Math.Path.{ap}
use Rattle.std.proofs.lemmas.Bool.{false≢true}
use borrow.Author.Tests.{eqb-true, ltb-false, lt-ltb, le-ltb}
use Rattle.spec.specs.Result.{Result, passed, refused, ◌then◌}
use Rattle.spec.specs.Finish.{all_tall}
use Rattle.spec.specs.Pipeline.{least_work, definitions_or, admitted, typst_to_latex, fitting, converted, answer_of, output_after, work_after, Call}
use Rattle.spec.specs.Laws.Admission.{narrow-work, unknown-field, too_long, foreign-byte, unreadable, Admission, not-admitted, is-admitted, admission}
use Rattle.spec.specs.Laws.Booleans.{or-neither}
use Rattle.held_laws.specs.Instances.{refused-not}
use Rattle.stage_laws.specs.Late.{early, Late, passes, refuses, then-late, stages-late}

pub call-as :
    {formula table work output work' output' : List ℕ} {display : Bool} {field : ℕ} {answer : Result ℕ} {r : Result (List ℕ)}
    → Call formula table display field work output answer work' output'
    → converted formula table display field work output ≡ r
    → (answer ≡ answer_of r) × ((work' ≡ work_after r work) × (output' ≡ output_after r output))
call-as {work = work} {output} c e = (c.answers ∙ ap answer_of e, (c.clears ∙ ap (λ r. work_after r work) e, c.writes ∙ ap (λ r. output_after r output) e))

-- ---- what a call comes to: 4, 15, or what is late
data Conversion (field : ℕ) (work : List ℕ) : Result (List ℕ) → Type 0 where
  narrow : length work < least_work → Conversion field work (refused 4)
  above : least_work ≤ length work → all_tall < field → Conversion field work (refused 15)
  later : {r : Result (List ℕ)} → Late r → Conversion field work r

fitting-late : (output s : List ℕ) → Late (fitting output s)
fitting-late output s = go (ltb (length output) (length s))
  where
    go : (b : Bool) → Late (cond b (refused 10) (passed s))
    go true = refuses refl
    go false = passes

conversion : (formula table : List ℕ) (display : Bool) (field : ℕ) (work output : List ℕ) → Conversion field work (converted formula table display field work output)
unfolding converted
conversion formula table display field work output = go (admission formula table field work)
  where
    go : {r : Result (List ℕ)} → Admission formula table field work r → Conversion field work (r then typst_to_latex (definitions_or table) display field then fitting output)
    go (not-admitted (narrow-work h)) = narrow h
    go (not-admitted (unknown-field w h)) = above w h
    go (not-admitted (too_long w f h)) = later (refuses refl)
    go (not-admitted (foreign-byte w f l h)) = later (refuses refl)
    go (not-admitted (unreadable w f l o h)) = later (refuses refl)
    go (is-admitted a) = later (then-late (fitting output) (stages-late (definitions_or table) display field formula) (fitting-late output))

-- ---- number 4
pub converted-clears : (formula table : List ℕ) (display : Bool) (field : ℕ) (work output : List ℕ) → least_work ≤ length work
    → work_after (converted formula table display field work output) work ≡ replicate (length work) 0
converted-clears formula table display field work output wide = go (conversion formula table display field work output)
  where
    go : {r : Result (List ℕ)} → Conversion field work r → work_after r work ≡ replicate (length work) 0
    go (narrow h) = absurd (omega arith)
    go (above w h) = refl
    go (later passes) = refl
    go (later (refuses {n} e)) = rw (or-neither (eqb n 4) (eqb n 6 || ltb 10 n) e).0

-- ---- number 6, and those above 10 but 15
abbrev not_given : ℕ → Bool
not_given n = eqb n 6 || ltb 10 n && not (eqb n 15)

abbrev not_given_by : Result ℕ → Bool
not_given_by (passed n) = false
not_given_by (refused n) = not_given n

conversion-given : {field : ℕ} {work : List ℕ} {r : Result (List ℕ)} → Conversion field work r → not_given_by (answer_of r) ≡ false
conversion-given (narrow h) = refl
conversion-given (above w h) = refl
conversion-given (later passes) = refl
conversion-given (later (refuses {n} e)) =
    let neither = or-neither (eqb n 6) (ltb 10 n) (or-neither (eqb n 4) (eqb n 6 || ltb 10 n) e).1 in rw (neither.0, neither.1)

module _ {formula table work output work' output' : List ℕ} {display : Bool} {field : ℕ} {answer : Result ℕ} (call : Call formula table display field work output answer work' output') where
  given : {n : ℕ} → answer ≡ refused n → not_given n ≡ false
  given e = sym (ap not_given_by e) ∙ ap not_given_by call.answers ∙ conversion-given (conversion formula table display field work output)

  pub never-six : answer ≡ refused 6 → ⊥
  never-six e = true≢false (given e)

  pub ten-or-fifteen : {n : ℕ} → answer ≡ refused n → (n ≤ 10) ⊎ (n ≡ 15)
  ten-or-fifteen {n} e = go (ltb 10 n) (eqb n 15) refl refl (or-neither (eqb n 6) (ltb 10 n && not (eqb n 15)) (given e)).1
    where
      go : (b c : Bool) → ltb 10 n ≡ b → eqb n 15 ≡ c → b && not c ≡ false → (n ≤ 10) ⊎ (n ≡ 15)
      go false c f g h = inl (ltb-false 10 n f)
      go true true f g h = inr (eqb-true n 15 g)
      go true false f g h = absurd (true≢false h)

  -- ---- number 15
  pub tall-field : least_work ≤ length work → all_tall < field → answer ≡ refused 15
  unfolding converted
  tall-field wide high =
      let first : admitted formula table field work ≡ refused 15 = rw (le-ltb (length work) least_work wide, admitted, lt-ltb all_tall field high) in
      call.answers ∙ ap (λ r. answer_of (r then typst_to_latex (definitions_or table) display field then fitting output)) first

  pub tall-field-only : answer ≡ refused 15 → (least_work ≤ length work) × (all_tall < field)
  tall-field-only e = go (conversion formula table display field work output) (sym call.answers ∙ e)
    where
      go : {r : Result (List ℕ)} → Conversion field work r → answer_of r ≡ refused 15 → (least_work ≤ length work) × (all_tall < field)
      go (narrow h) e = let other : ◌≡◌ {A = ℕ} 4 15 = cc in absurd (omega arith)
      go (above w h) e = (w, h)
      go (later passes) e = refused-not (sym e)
      go (later (refuses {n} l)) e = let fifteen : n ≡ 15 = cc in absurd (false≢true (sym l ∙ ap early fifteen))
