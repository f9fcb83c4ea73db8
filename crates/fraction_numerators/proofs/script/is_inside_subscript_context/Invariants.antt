-- `fraction_numerators::script::is_inside_subscript_context` meets its contract. The loop's invariant: the search from here is the search from the start. Assumes nothing.
use Rattle.fraction_numerators.specs.Script.{Scripting}
use Rattle.fraction_numerators.proofs.script.is_inside_subscript_context.Given as goal

abbrev pub invariant-loop-i : goal.invariant-loop-i
invariant-loop-i l = Scripting l.s l.pos l.tally l.i
