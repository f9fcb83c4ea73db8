-- `entry_calls::joins::both_and_join` meets its contract: what the three calls ensure, and what is proved of any three.
-- Assumes nothing.
use Rattle.entry_calls.specs.Joined.{outputs-join, first_done, second-done}
use Rattle.entry_calls.proofs.joins.both_and_join.Goals as goal

pub returns : goal.returns
returns c =
    let join = c.typst_to_latex-3.ensures in
    let second = c.typst_to_latex-2.ensures in
    let first = c.typst_to_latex.ensures in
    record { first = first; second = second; whole = join; joins = (λ k n m. outputs-join first second join); first_accepted = (λ k. first_done first join); second_accepted = (λ k. second-done second join) }
