-- Calls with their answers in numbers. Assumes nothing.
use Rattle.std.specs.Prelude.{◌≡◌, Bool, List, ℕ}
use Rattle.std.proofs.Common.{sym, ◌∙◌}
use Rattle.spec.specs.Result.{Result}
use Rattle.spec.specs.Pipeline.{Call}

pub call-answered :
    {formula table work output work' output' : List ℕ} {display : Bool} {field : ℕ} {a b : Result ℕ} → a ≡ b
    → Call formula table display field work output a work' output'
    → Call formula table display field work output b work' output'
call-answered e c = record { answers = sym e ∙ c.answers; clears = c.clears; writes = c.writes }
