-- `held_blocks::hold::hold_out` meets its contract. The invariant is `Holding`, at place i. Assumes nothing.
use mathlib.Core.Path.{refl, sym, ◌∙◌}
use Rattle.held_blocks.specs.Filing.{text-appended}
use native.Mathlib.Omega.{arith}
use Rattle.held_blocks.specs.HoldOut.{holding-none, name-fits, holding-all, holding-other, holding-rest, holding-held}
use Rattle.held_blocks.proofs.hold.hold_out.Goals as goal

pub loop-i-init : goal.loop-i-init
loop-i-init c = rw c.new-out.ensures (refl, holding-none _ _ _ _ _ _ _ _)

pub loop-i-preserved-then-not-starts_with : goal.loop-i-preserved-then-not-starts_with
loop-i-preserved-then-not-starts_with c =
    let a = text-appended c.loop-i.invariant.0 c.copy-out.ensures in
    (a.0, holding-other c.requires.hold c.loop-i.invariant.1 c.loop-i-test.true (sym c.starts_with.ensures ∙ c.if-not-starts_with.true) a.1)

pub slice_bounds-find_matching_brace-count : goal.slice_bounds-find_matching_brace-count
slice_bounds-find_matching_brace-count c =
    let h = c.loop-i.invariant.1 in let more = c.loop-i-test.true in
    let fits = name-fits c.requires.hold h (sym c.starts_with.ensures ∙ c.if-not-starts_with.false) (omega arith) in omega arith

pub slice_bounds-find_matching_brace-start : goal.slice_bounds-find_matching_brace-start
slice_bounds-find_matching_brace-start c =
    let h = c.loop-i.invariant.1 in let more = c.loop-i-test.true in
    let fits = name-fits c.requires.hold h (sym c.starts_with.ensures ∙ c.if-not-starts_with.false) (omega arith) in omega arith

pub loop-i-preserved : goal.loop-i-preserved
loop-i-preserved c =
    let a = text-appended c.loop-i.invariant.0 c.put-out.ensures in
    (a.0, holding-held c.requires.hold c.loop-i.invariant.1 c.loop-i-test.true (sym c.starts_with.ensures ∙ c.if-not-starts_with.false) c.find_matching_brace.ensures c.in-Some.k c.in-Some.is a.1 c.keep-held.ensures)

pub returns-after-loop-i : goal.returns-after-loop-i
returns-after-loop-i c = holding-all c.requires.hold c.loop-i.invariant.1 (omega arith)

pub returns-in_default : goal.returns-in_default
returns-in_default c =
    let a = text-appended c.loop-i.invariant.0 c.copy-out-in_default.ensures in
    let rest = holding-rest c.requires.hold c.loop-i.invariant.1 c.loop-i-test.true (sym c.starts_with.ensures ∙ c.if-not-starts_with.false) c.find_matching_brace.ensures c.in_default.is a.1 in
    holding-all c.requires.hold rest (omega arith)
