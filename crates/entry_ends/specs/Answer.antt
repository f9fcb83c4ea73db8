-- What an answer means, and what the steps of a call ensure. Assumes nothing.
--     meaning      an answer in document 01's numbers
--     verdict_of    what the checks came to, in these numbers
--     Checks       the numbers 2, 1 and 3 let the call pass, or the first of them refuses it
--     Admits       the formula stands in the work buffer, or a number refuses it
--     PutOut       the finished text stands in the output, or a number refuses the call
use Rattle.std.specs.Prelude.{◌≡◌, List, ℕ, length}
use Rattle.spec.specs.Result.{Result, passed, refused, ◌then◌}
use Rattle.spec.specs.Pipeline.{checked, admitted, fitting, answer_of, output_after}
use Rattle.text.specs.Stage.{number, shown, Ready}
use Rattle.text.specs.Stage.{Progress}
use Rattle.text.specs.declared.Refusal.{Refusal}
use Rattle.std.specs.Prelude.{Result as Either, Ok, Err}

-- the length of the LaTeX, or why there is none
abbrev pub Answer : Type 0
Answer = Either ℕ Refusal

-- what the checks came to
abbrev pub Verdict : Type 0
Verdict = Either (Unit {0}) Refusal

abbrev pub meaning : Answer → Result ℕ
meaning (Ok n) = passed n
meaning (Err why) = refused (number why)

pub means-done : {n : ℕ} (answer : Answer) → meaning answer ≡ passed n → answer ≡ Ok n
means-done (Ok m) e = cc
means-done (Err why) e = cc

abbrev pub verdict_of : List ℕ → Verdict → Result (List ℕ)
verdict_of formula (Ok u) = passed formula
verdict_of formula (Err why) = refused (number why)

pub record Checks (formula table : List ℕ) (v : Verdict) : Type 0 where
  pub answers : verdict_of formula v ≡ checked formula table

pub record Admits (formula table : List ℕ) (field : ℕ) (w w' : List ℕ) (p : Progress) : Type 0 where
  pub shows : shown p w' ≡ admitted formula table field w
  pub ready : Ready w' p
  pub long : length w' ≡ length w

pub record PutOut (w : List ℕ) (p : Progress) (answer : Answer) (output output' : List ℕ) : Type 0 where
  pub answers : meaning answer ≡ answer_of (shown p w then fitting output)
  pub writes : output' ≡ output_after (shown p w then fitting output) output
