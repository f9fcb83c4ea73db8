-- What the steps of a run come to, by what their functions ensure. Assumes nothing.
--     Converts                             the answer of a call as a text in the buffer
--     converts-done, converts-refused      from the call and what was written
--     prints-neither, prints-converted     the whole run, whatever lies behind the place where reading stopped
--     prints-within                        the text lies within the buffer
use Rattle.std.specs.Prelude.{◌≡◌, refl, Bool, List, ℕ, ◌≤◌, length, take, replicate}
use Rattle.std.proofs.Common.{sym, ap, ◌∙◌, subst, arith, length-append, length-take, take_all}
use Rattle.std.proofs.Math.Option.{Option, none, some}
use Rattle.std.proofs.lemmas.List.{length-replicate}
use Rattle.spec.specs.Symbols.{bytes}
use Rattle.spec.specs.Result.{Result, passed, refused, ◌then◌}
use Rattle.spec.specs.Finish.{all_tall}
use Rattle.spec.specs.Pipeline.{least_work, definitions_or, admitted, typst_to_latex, fitting, converted, answer_of, output_after, work_after, Call}
use Rattle.spec.specs.Program.{first_line, formula_of, most_output, reported, answered, printed, buffer_after, Read, Prints}
use Rattle.spec.specs.Laws.Result.{unpassed}
use Rattle.spec.specs.Laws.Calls.{call-converted}
use Rattle.formula_text.specs.Cut.{past_formula, past_input, past_table, first-cut, formula-cut, converted-cut}
use Rattle.std.specs.Prelude.{Option as Maybe, Some, None}
use Rattle.std.specs.Option.{is_some}
use Rattle.formula_input.specs.Input.{asked, is_asked}
use Rattle.formula_report.specs.Standing.{Stands}

-- the answer of a call with the program's buffers, as a text at the start of another
pub record Converts (formula table : List ℕ) (display : Bool) (work output w : List ℕ) (count : ℕ) (work' output' w' : List ℕ) : Type 0 where
  pub stands : Stands (reported (converted formula table display all_tall (replicate least_work 0) (replicate most_output 0))) w count w'
  pub clears : work' ≡ work_after (converted formula table display all_tall (replicate least_work 0) (replicate most_output 0)) work
  pub puts-out : output' ≡ output_after (converted formula table display all_tall (replicate least_work 0) (replicate most_output 0)) output

-- ---- a call
-- only the buffers' lengths count
converted-lent :
    (formula table : List ℕ) (display : Bool) (field : ℕ) (work work₁ output output₁ : List ℕ) → length work ≡ length work₁ → length output ≡ length output₁
    → converted formula table display field work output ≡ converted formula table display field work₁ output₁
unfolding converted
converted-lent formula table display field work work₁ output output₁ w o =
    ap (λ a. a then typst_to_latex (definitions_or table) display field then fitting output) admits ∙ fits (admitted formula table field work₁ then typst_to_latex (definitions_or table) display field)
  where
    admits : admitted formula table field work ≡ admitted formula table field work₁
    admits = rw (w, admitted)

    fits : (r : Result (List ℕ)) → (r then fitting output) ≡ (r then fitting output₁)
    fits (passed s) = rw (o, fitting)
    fits (refused k) = refl

module _ {formula table work output work' output' : List ℕ} {display : Bool} {answer : Result ℕ} (wide : length work ≡ least_work) (long : length output ≡ most_output) (c : Call formula table display all_tall work output answer work' output') where
  same : converted formula table display all_tall work output ≡ converted formula table display all_tall (replicate least_work 0) (replicate most_output 0)
  same = converted-lent formula table display all_tall _ _ _ _ (wide ∙ sym (length-replicate {A = ℕ} least_work 0)) (long ∙ sym (length-replicate {A = ℕ} most_output 0))

  converts : {w w' : List ℕ} {count : ℕ} → Stands (reported (converted formula table display all_tall work output)) w count w' → Converts formula table display work output w count work' output' w'
  converts {w} {w'} {count} s =
      record {
        stands = subst (λ r. Stands (reported r) w count w') same s;
        clears = c.clears ∙ ap (λ r. work_after r work) same;
        puts-out = c.writes ∙ ap (λ r. output_after r output) same;
      }

  pub converts-done : {n : ℕ} {w w' : List ℕ} {count : ℕ} → answer ≡ passed n → Stands (reported (passed (take n output'))) w count w' → Converts formula table display work output w count work' output' w'
  converts-done {n} {w} {w'} {count} e s = converts (subst (λ r. Stands (reported r) w count w') (sym (call-converted (rw e at c))) s)

  pub converts-refused : {k : ℕ} {w w' : List ℕ} {count : ℕ} → answer ≡ refused k → Stands (reported (refused k)) w count w' → Converts formula table display work output w count work' output' w'
  converts-refused {k} {w} {w'} {count} e s = converts (subst (λ r. Stands (reported r) w count w') (go (converted _ _ _ _ _ _) (sym e ∙ c.answers)) s)
    where
      go : (r : Result (List ℕ)) → refused k ≡ answer_of r → refused k ≡ r
      go (refused j) e = cc
      go (passed latex) e = absurd (unpassed e)

-- ---- a run
pub some-asked : (r : Maybe Bool) → is_some r ≡ is_asked (asked r)
some-asked (Some display) = refl
some-asked None = refl

-- what an input whose first line is known prints, and what it leaves in a buffer
printed-for :
    (input table : List ℕ) {line : Option Bool} → first_line input ≡ line
    → printed input table ≡ elim line as (λ _. List ℕ) [ none ↦ bytes "first line: d or i\n" | some display ↦ reported (answered input table display) ]
printed-for input table e = rw (e, printed)

buffer-for :
    (after : Result (List ℕ) → List ℕ → List ℕ) (input table buffer : List ℕ) {line : Option Bool} → first_line input ≡ line
    → buffer_after after input table buffer ≡ elim line as (λ _. List ℕ) [ none ↦ buffer | some display ↦ after (answered input table display) buffer ]
buffer-for after input table buffer e = rw (e, buffer_after)

module _ (input_read : List ℕ) (n : ℕ) (full : length input_read ≡ past_input) where
  -- what was read of an input, and its first line
  input-read : (input : List ℕ) → Read input_read n input → take n input_read ≡ take past_input input
  input-read input r = r ∙ ap (λ (k : ℕ). take k input) full

  pub line_read : (input : List ℕ) → Read input_read n input → first_line (take n input_read) ≡ first_line input
  line_read input r = ap first_line (input-read input r) ∙ first-cut input

  module _ (table_read : List ℕ) (m : ℕ) {work output w work' output' w' : List ℕ} {count : ℕ} where
    pub prints-neither :
        none ≡ first_line (take n input_read) → Stands (bytes "first line: d or i\n") w count w' → work' ≡ work → output' ≡ output
        → Prints input_read n table_read m work output w count work' output' w'
    prints-neither e s same-work same-output input table r _ =
        let line : first_line input ≡ none = sym (e ∙ line_read input r) in
        let text = subst (λ t. Stands t w count w') (sym (printed-for input table line)) s in
        record {
          answers = text.counted;
          writes = text.written;
          clears = same-work ∙ sym (buffer-for work_after input table work line);
          puts-out = same-output ∙ sym (buffer-for output_after input table output line);
        }

    pub prints-converted :
        {display : Bool} → length table_read ≡ past_table → some display ≡ first_line (take n input_read)
        → Converts (formula_of (take n input_read)) (take m table_read) display work output w count work' output' w'
        → Prints input_read n table_read m work output w count work' output' w'
    prints-converted {display} wide e c input table r t =
        let line : first_line input ≡ some display = sym (e ∙ line_read input r) in
        let formula : formula_of (take n input_read) ≡ take past_formula (formula_of input) = ap formula_of (input-read input r) ∙ formula-cut input in
        let records : take m table_read ≡ take past_table table = t display line ∙ ap (λ (k : ℕ). take k table) wide in
        let cut = rw records at (rw formula at c) in
        let same = converted-cut (formula_of input) table display all_tall (replicate least_work 0) (replicate most_output 0) in
        let text = subst (λ s. Stands s w count w') (ap reported same ∙ sym (printed-for input table line)) cut.stands in
        record {
          answers = text.counted;
          writes = text.written;
          clears = cut.clears ∙ ap (λ a. work_after a work) same ∙ sym (buffer-for work_after input table work line);
          puts-out = cut.puts-out ∙ ap (λ a. output_after a output) same ∙ sym (buffer-for output_after input table output line);
        }

-- ---- what was read is all of an input that ends there
read-itself : (buffer : List ℕ) (n : ℕ) → Read buffer n (take n buffer)
read-itself buffer n = sym (take_all (length buffer) (take n buffer) (simp length-take (omega arith)))

pub prints-within : (input_read : List ℕ) (n : ℕ) (table_read : List ℕ) (m : ℕ) {work output w work' output' w' : List ℕ} {count : ℕ} → Prints input_read n table_read m work output w count work' output' w' → count ≤ length w'
prints-within input_read n table_read m p =
    let run = p (take n input_read) (take m table_read) (read-itself input_read n) (λ _ _. read-itself table_read m) in
    let long = simp length-append at (ap length run.writes) in
    let count = run.answers in
    omega arith
