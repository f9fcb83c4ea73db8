-- `text_search::is_among` meets its contract. The loop's invariant: what was found, or the symbols from its place on, decide. Assumes nothing.
use Rattle.std.proofs.Common.{◌≡◌, ◌||◌, eqb, drop}
use Rattle.spec.specs.Symbols.{any}
use Rattle.text_search.proofs.is_among.Given as goal

abbrev pub invariant-loop-x : goal.invariant-loop-x
invariant-loop-x l = (l.among || any (λ x. eqb x l.b) (drop l.x-index l.block)) ≡ any (λ x. eqb x l.b) l.block
