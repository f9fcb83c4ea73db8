-- `quotes::put_opening` meets its contract, by whether there is a gap. Assumes nothing.
use Rattle.quotes.proofs.put_opening.Goals as goal

pub returns-then-gap : goal.returns-then-gap
returns-then-gap c =
    rw (← c.gap.ensures, c.if-gap.true) (rw c.cut.ensures at c.put_all.ensures)

pub returns : goal.returns
returns c =
    rw (← c.gap.ensures, c.if-gap.false) c.put_all-2.ensures
