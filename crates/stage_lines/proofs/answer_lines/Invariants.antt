-- Each turn passes a line, and a heading is a line.
use Rattle.std.proofs.Common.{length, ◌-◌, ◌≤◌}
use Rattle.stage_lines.proofs.answer_lines.Given as goal

abbrev pub invariant-loop-start : goal.invariant-loop-start
invariant-loop-start g l = (l.section ≤ l.start) × (l.start ≤ length l.s)

abbrev pub decreases-loop-start : goal.decreases-loop-start
decreases-loop-start g l = length l.s - l.start
