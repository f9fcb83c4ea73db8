-- `pattern_rewriting::rules::paren_to_brace` meets its contract, by what the closing search finds. Assumes nothing.
use Rattle.pattern_rewriting.specs.Edits.{long, paren-closed, paren-open}
use Rattle.pattern_rewriting.proofs.rules.paren_to_brace.Goals as goal

pub slice_bounds-find_matching_paren-count : goal.slice_bounds-find_matching_paren-count
slice_bounds-find_matching_paren-count c = long c.requires

pub slice_bounds-find_matching_paren-start : goal.slice_bounds-find_matching_paren-start
slice_bounds-find_matching_paren-start c = long c.requires

pub returns-in_default : goal.returns-in_default
returns-in_default c = λ left. paren-open c.requires left c.find_matching_paren.ensures c.in_default.is

pub returns : goal.returns
returns c = λ left. paren-closed c.requires left c.find_matching_paren.ensures c.in-Some.is
