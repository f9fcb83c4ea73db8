-- Document 02's A10 in the entry's own answers: `calls-join`, `first-accepted` and `second-accepted` of crates/plain_printing/specs/Joins.antt.
-- Assumes nothing.
use Rattle.std.specs.Prelude.{◌≡◌, true, List, ℕ, ◌≤◌, length, take}
use Rattle.spec.specs.Grammar.{Plain}
use Rattle.spec.specs.Pipeline.{least_work, Call}
use Rattle.plain_printing.specs.Calls.{NoRecords, latex_of}
use Rattle.plain_printing.specs.Joins.{joined}
use Rattle.plain_printing.proofs.Joins.{calls-join, first-accepted, second-accepted}
use Rattle.entry_ends.specs.Answer.{meaning, means-done}
use Rattle.entry_ends.specs.Answer.{Answer}
use Rattle.std.specs.Prelude.{Ok}

module _ {field : ℕ} {formula f g table table₁ work output work' output' work₁ output₁ work₁' output₁' : List ℕ} {answer answer₁ : Answer} where
  pub outputs-join : {table₂ work₂ output₂ work₂' output₂' : List ℕ} {answer₂ : Answer} {k n m : ℕ}
      → Call f table₁ true field work₁ output₁ (meaning answer₁) work₁' output₁'
      → Call g table₂ true field work₂ output₂ (meaning answer₂) work₂' output₂'
      → Call formula table true field work output (meaning answer) work' output'
      → answer ≡ Ok k
      → answer₁ ≡ Ok n
      → answer₂ ≡ Ok m
      → NoRecords table
      → NoRecords table₁
      → NoRecords table₂
      → formula ≡ joined f g
      → Plain f
      → Plain g
      → take k output' ≡ joined (take n output₁') (take m output₂')
  outputs-join a b c done done₁ done₂ empty empty₁ empty₂ whole p q = calls-join p q empty (rw (done, whole) at c) empty₁ empty₂ (rw done₁ at a) (rw done₂ at b)

  pub first_done : {k : ℕ}
      → Call f table₁ true field work₁ output₁ (meaning answer₁) work₁' output₁'
      → Call formula table true field work output (meaning answer) work' output'
      → answer ≡ Ok k
      → NoRecords table
      → NoRecords table₁
      → formula ≡ joined f g
      → (p : Plain f)
      → Plain g
      → least_work ≤ length work₁
      → length (latex_of field p) ≤ length output₁
      → answer₁ ≡ Ok (length (latex_of field p))
  first_done a c done empty empty₁ whole p q wide long = means-done answer₁ (first-accepted p q empty (rw (done, whole) at c) empty₁ wide long a)

  pub second-done : {k : ℕ}
      → Call g table₁ true field work₁ output₁ (meaning answer₁) work₁' output₁'
      → Call formula table true field work output (meaning answer) work' output'
      → answer ≡ Ok k
      → NoRecords table
      → NoRecords table₁
      → formula ≡ joined f g
      → Plain f
      → (q : Plain g)
      → least_work ≤ length work₁
      → length (latex_of field q) ≤ length output₁
      → answer₁ ≡ Ok (length (latex_of field q))
  second-done b c done empty empty₁ whole p q wide long = means-done answer₁ (second-accepted p q empty (rw (done, whole) at c) empty₁ wide long b)
