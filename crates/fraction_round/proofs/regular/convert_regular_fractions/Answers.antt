-- `fraction_round::regular::convert_regular_fractions` meets its contract. The loop's invariant: i symbols have been read, the marks say which slashes
-- were left, and the rest of the symbols finish what has been written. Assumes nothing.
use Rattle.std.specs.Prelude.{Ok}
use Rattle.fraction_round.specs.Turn.{converting-none, converting-all, converting-copied, converting-stays, converting-barred, converting-fraction, slice-scriptless, ordered, fraction-ahead}
use mathlib.Core.Path.{ap, ◌∙◌}
use native.Mathlib.Omega.{arith}
use Rattle.fraction_round.proofs.regular.convert_regular_fractions.Goals as goal
use Rattle.fraction_round.proofs.regular.convert_regular_fractions.Goals.{then-b-eq47+in_ok-f+in_default, else-b-eq47}

pub loop-i-init : goal.loop-i-init
loop-i-init c = rw c.new-out.ensures (converting-none c.requires.regions c.requires.n_le_most_symbols c.has_script_group-scripts.ensures c.clear.ensures)

pub slash_at-requires-clause-scriptless : goal.slash_at-requires-clause-scriptless
slash_at-requires-clause-scriptless c = slice-scriptless c.loop-i.invariant

pub returns-in_err-f : goal.returns-in_err-f
returns-in_err-f c = converting-barred c.loop-i.invariant (omega arith) c.if-b-eq47.true c.slash_at.ensures c.in_err-f.was c.from_residual.result c.from_residual.ensures.0

pub put_converted-out-requires-clause-ordered : goal.put_converted-out-requires-clause-ordered
put_converted-out-requires-clause-ordered c = ordered c.loop-i.invariant (omega arith) c.if-b-eq47.true c.slash_at.ensures (c.in_ok-f.was ∙ ap Ok c.in-Some.is)

pub loop-i-smaller-in-Some : goal.loop-i-smaller-in-Some
loop-i-smaller-in-Some c =
    let ahead = fraction-ahead c.loop-i.invariant (omega arith) c.if-b-eq47.true c.slash_at.ensures (c.in_ok-f.was ∙ ap Ok c.in-Some.is) in
    omega arith

pub loop-i-preserved-in-Some : goal.loop-i-preserved-in-Some
loop-i-preserved-in-Some c =
    converting-fraction c.loop-i.invariant (omega arith) c.if-b-eq47.true c.slash_at.ensures (c.in_ok-f.was ∙ ap Ok c.in-Some.is) c.put_converted-out.ensures c.rewrite.ensures

-- a symbol is copied: a slash that stays, or another one
pub loop-i-preserved : goal.loop-i-preserved
loop-i-preserved c =
    elim c.if-b-eq47.branch [
      | then-b-eq47+in_ok-f+in_default w ↦
          rw w.marks-is (converting-stays c.loop-i.invariant (omega arith) w.if-b-eq47.true w.slash_at.ensures (w.in_ok-f.was ∙ ap Ok w.in_default.is) c.put-out.ensures)
      | else-b-eq47 w ↦ rw w.marks-is (converting-copied c.loop-i.invariant (omega arith) w.if-b-eq47.false c.put-out.ensures)
    ]

pub returns : goal.returns
returns c = converting-all c.loop-i.invariant (omega arith)
