-- `pattern_rewriting::is_matched` meets its contract: a search from place to place. Assumes nothing.
use mathlib.Core.List.{[]}
use native.Mathlib.Omega.{arith}
use Rattle.pattern_rewriting.specs.Turns.{edit-here, edit-nowhere, edit-later}
use Rattle.pattern_rewriting.proofs.is_matched.Goals as goal

pub loop-i-smaller : goal.loop-i-smaller
loop-i-smaller c =
    let later = edit-later c.loop-i.invariant (c.edit_at.ensures []) c.loop-i-test.ensures c.find_from.ensures c.in-Some.is in
    let h = later.1.within in omega arith

pub loop-i-preserved : goal.loop-i-preserved
loop-i-preserved c =
    (edit-later c.loop-i.invariant (c.edit_at.ensures []) c.loop-i-test.ensures c.find_from.ensures c.in-Some.is).1

pub returns-in_default : goal.returns-in_default
returns-in_default c = edit-nowhere c.loop-i.invariant (c.edit_at.ensures []) c.loop-i-test.ensures c.find_from.ensures c.in_default.is

pub returns : goal.returns
returns c = edit-here c.loop-i.invariant (c.edit_at.ensures []) c.loop-i-test.ensures
