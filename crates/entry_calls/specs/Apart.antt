-- Demand 3 in the entry's own answers: `calls-apart` of crates/plain_printing/specs/Calls.antt. Assumes nothing.
use Rattle.std.specs.Prelude.{◌≡◌, true, List, ◌≢◌, ℕ, take}
use Rattle.spec.specs.Grammar.{Plain}
use Rattle.spec.specs.Pipeline.{Call}
use Rattle.plain_printing.specs.Calls.{NoRecords}
use Rattle.plain_printing.proofs.Calls.{calls-apart}
use Rattle.entry_ends.specs.Answer.{meaning}
use Rattle.entry_ends.specs.Answer.{Answer}
use Rattle.std.specs.Prelude.{Ok}

pub outputs-apart :
    {formula table work output work' output' formula₁ table₁ work₁ output₁ work₁' output₁' : List ℕ} {field : ℕ} {answer answer₁ : Answer} {n m : ℕ}
    → Call formula table true field work output (meaning answer) work' output'
    → Call formula₁ table₁ true field work₁ output₁ (meaning answer₁) work₁' output₁'
    → answer ≡ Ok n
    → answer₁ ≡ Ok m
    → NoRecords table
    → NoRecords table₁
    → Plain formula
    → Plain formula₁
    → formula ≢ formula₁
    → take n output' ≢ take m output₁'
outputs-apart {table = table} {table₁ = table₁} c d e f h k p q differ same = differ (calls-apart p q table table₁ h k (rw e at c) (rw f at d) same)
