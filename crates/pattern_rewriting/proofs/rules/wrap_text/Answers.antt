-- `pattern_rewriting::rules::wrap_text` meets its contract, by what the closing search finds. Assumes nothing.
use Rattle.pattern_rewriting.specs.Edits.{long}
use Rattle.pattern_rewriting.proofs.rules.wrap_text.Goals as goal

pub slice_bounds-find_matching_brace-count : goal.slice_bounds-find_matching_brace-count
slice_bounds-find_matching_brace-count c = long c.requires

pub slice_bounds-find_matching_brace-start : goal.slice_bounds-find_matching_brace-start
slice_bounds-find_matching_brace-start c = long c.requires
