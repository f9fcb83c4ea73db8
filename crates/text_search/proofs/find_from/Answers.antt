-- `text_search::find_from` meets its contract, by the search in the rest of the text. Assumes nothing.
use native.Mathlib.Omega.{arith}
use mathlib.Core.Path.{sym}
use Rattle.spec.specs.Symbols.{find}
use Rattle.text_search.specs.Search.{finds-rest, finds-later, finds-nothing}
use Rattle.text_search.proofs.find_from.Goals as goal

pub returns-in_err-k : goal.returns-in_err-k
returns-in_err-k c =
    let nothing = finds-nothing (finds-rest c.args.s.now c.args.start (find c.args.pattern.now) c.find.ensures) c.in_err-k.was in
    rw c.from_residual.ensures (record { within = omega arith; found = sym nothing })

pub returns : goal.returns
returns c =
    finds-later c.args.start (finds-rest c.args.s.now c.args.start (find c.args.pattern.now) c.find.ensures) c.in_ok-k.was

pub overflow_add-result : goal.overflow_add-result
overflow_add-result c = let w = (returns c).within in omega arith
