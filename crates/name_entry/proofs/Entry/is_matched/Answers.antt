-- `name_entry::Entry::is_matched` meets its contract: a search from place to place. Assumes nothing.
use mathlib.Core.Path.{sym, ◌∙◌}
use native.Mathlib.Omega.{arith}
use Rattle.text_search.specs.Matched.{match-here, no-match, place_after, searching-more}
use Rattle.name_entry.specs.Bounded.{bounded-at-pattern}
use Rattle.name_entry.proofs.Entry.is_matched.Goals as goal

pub returns-in_default : goal.returns-in_default
returns-in_default c =
    no-match c.loop-i.invariant (bounded-at-pattern c.args.self.now.bounds c.args.self.now.pattern.now) (sym c.is_match.ensures ∙ c.loop-i-test.true) c.find_from.ensures c.in_default.is

pub loop-i-smaller : goal.loop-i-smaller
loop-i-smaller c =
    let after = place_after c.loop-i.invariant (bounded-at-pattern c.args.self.now.bounds c.args.self.now.pattern.now) (sym c.is_match.ensures ∙ c.loop-i-test.true) c.find_from.ensures c.in-Some.is in
    let h = c.loop-i.invariant.within in omega arith

pub loop-i-preserved : goal.loop-i-preserved
loop-i-preserved c =
    searching-more c.loop-i.invariant (bounded-at-pattern c.args.self.now.bounds c.args.self.now.pattern.now) (sym c.is_match.ensures ∙ c.loop-i-test.true) c.find_from.ensures c.in-Some.is

pub returns : goal.returns
returns c = match-here c.loop-i.invariant (sym c.is_match.ensures ∙ c.loop-i-test.false)
