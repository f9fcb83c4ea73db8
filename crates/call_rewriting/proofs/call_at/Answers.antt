-- `call_rewriting::call_at` meets its contract, by what `starts_with` and the closing search ensure. Assumes nothing.
use Rattle.std.specs.Prelude.{◌≤◌, length}
use Rattle.std.proofs.Common.{sym, ◌∙◌, subst}
use Rattle.call_rewriting.specs.Delimiters.{called-by, called-not}
use Rattle.spec.specs.Laws.Closing.{length_seen}
use Rattle.spec.specs.Laws.Symbols.{starts-long}
use Rattle.spec.specs.Closing.{find_matching_paren, over_quotes}
use Rattle.text_symbols.specs.Parts.{rest_of}
use Rattle.text_search.specs.Search.{Closes}
use mathlib.Core.Bool.{false}
use Rattle.call_rewriting.proofs.call_at.Goals as goal

pub returns-then-not-starts_with : goal.returns-then-not-starts_with
returns-then-not-starts_with c = called-not over_quotes c.args.name.now c.args.s.now (sym c.starts_with.ensures ∙ c.if-not-starts_with.true)

pub slice_bounds-find_call_end-count : goal.slice_bounds-find_call_end-count
slice_bounds-find_call_end-count c = starts-long c.args.name.now c.args.s.now (sym c.starts_with.ensures ∙ c.if-not-starts_with.false)

pub slice_bounds-find_call_end-start : goal.slice_bounds-find_call_end-start
slice_bounds-find_call_end-start c =
    let long : length c.args.name.now ≤ length c.args.s.now = starts-long c.args.name.now c.args.s.now (sym c.starts_with.ensures ∙ c.if-not-starts_with.false) in long

pub returns : goal.returns
returns c =
    let met = sym c.starts_with.ensures ∙ c.if-not-starts_with.false in
    called-by over_quotes c.args.name.now c.args.s.now _ met (length_seen false _)
    (subst (λ t. Closes (over_quotes t) c.find_call_end.result (find_matching_paren (over_quotes t))) (rest_of (length c.args.name.now) c.args.s.now) c.find_call_end.ensures)
