-- `attach::attach_all` meets its contract. The loop's invariant: turns have been made, and those left make of the text what all make of the first. Assumes nothing.
use Rattle.attach.specs.Turns.{Turning}
use Rattle.attach.proofs.attach_all.Given as goal

abbrev pub invariant-loop-turn : goal.invariant-loop-turn
invariant-loop-turn l = Turning l.initial.work l.work l.fn.text.at l.fn.text.n l.last.at l.last.n l._turn
