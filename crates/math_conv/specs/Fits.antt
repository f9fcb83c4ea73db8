-- What a caller knows of a call's answer without its formula. Assumes nothing.
--     call-count-fits    the byte count lies within the output buffer
use Rattle.std.specs.Prelude.{◌≡◌, Bool, List, ℕ, ◌≤◌, length}
use Rattle.spec.specs.Pipeline.{Call}
use Rattle.spec.specs.Laws.Calls.{converted-fits, call-converted, call-count}
use Rattle.entry_ends.specs.Answer.{Answer}
use Rattle.std.specs.Prelude.{Ok}
use Rattle.entry_ends.specs.Answer.{meaning}

pub call-count-fits :
    {formula table work output work' output' : List ℕ} {display : Bool} {field : ℕ} {answer : Answer} {n : ℕ}
    → Call formula table display field work output (meaning answer) work' output'
    → answer ≡ Ok n
    → n ≤ length output
call-count-fits {formula} {table} {work} {output} {display = display} {field} {n = n} c e = let accepts = rw e at c in rw (call-count accepts) (converted-fits formula table display field work output (call-converted accepts))
