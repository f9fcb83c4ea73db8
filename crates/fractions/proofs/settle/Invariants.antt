-- `fractions::settle` meets its contract. The loop's invariant: k rounds have changed the text, and the rounds that are left decide. Assumes nothing.
use Rattle.fractions.specs.Settle.{Going}
use Rattle.fractions.proofs.settle.Given as goal

abbrev pub invariant-loop-k : goal.invariant-loop-k
invariant-loop-k l = Going l.initial.work l.work l.fn.first l.text l.k
