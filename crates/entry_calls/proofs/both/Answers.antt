-- `entry_calls::both` meets its contract: what the two calls ensure, and the theorem about any two.
-- Assumes nothing.
use Rattle.entry_calls.specs.Apart.{outputs-apart}
use Rattle.entry_calls.proofs.both.Goals as goal

pub returns : goal.returns
returns c =
    let second = c.typst_to_latex-2.ensures in
    let first = c.typst_to_latex.ensures in
    record { first = first; second = second; apart = λ n m. outputs-apart first second }
