-- `attach::attach_all` meets its contract. The loop's invariant: turns have been made, and those left make of the text what all make of the first. Assumes nothing.
use Rattle.attach.specs.Turns.{turning-more, turning-done, turning-all}
use native.Mathlib.Omega.{arith}
use Rattle.attach.proofs.attach_all.Goals as goal

pub returns-in_default : goal.returns-in_default
returns-in_default c = turning-done c.loop-turn.invariant c.requires c.attach_once.ensures c.in_default.is

pub loop-turn-preserved : goal.loop-turn-preserved
loop-turn-preserved c = turning-more c.loop-turn.invariant (omega arith) c.attach_once.ensures c.in-Some.is

pub returns : goal.returns
returns c = turning-all c.loop-turn.invariant c.requires (omega arith)
