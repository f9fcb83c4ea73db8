-- `lr::lr_at` meets its contract, by what `starts_with` and the closing search ensure. Assumes nothing.
use Rattle.lr.specs.Lr.{lr_name}
use Rattle.call_rewriting.specs.Delimiters.{called-by, called-not}
use Rattle.text_search.specs.Search.{closes-rest}
use Rattle.spec.specs.Laws.Symbols.{starts-long}
use Rattle.spec.specs.Closing.{find_matching_paren}
use lib.ListN.{length, length-take, length-drop}
use mathlib.Core.Path.{refl, sym, ◌∙◌}
use Prim.Native.Nat.{◌≤◌}
use native.Mathlib.Omega.{arith}
use Rattle.lr.proofs.lr_at.Goals as goal

pub returns-then-not-starts_with : goal.returns-then-not-starts_with
returns-then-not-starts_with c =
    called-not (λ s. s) lr_name c.args.s.now (sym c.starts_with.ensures ∙ c.if-not-starts_with.true)

pub slice_bounds-find_matching_paren-count : goal.slice_bounds-find_matching_paren-count
slice_bounds-find_matching_paren-count c =
    let long : 3 ≤ length c.args.s.now = starts-long lr_name c.args.s.now (sym c.starts_with.ensures ∙ c.if-not-starts_with.false) in long

pub slice_bounds-find_matching_paren-start : goal.slice_bounds-find_matching_paren-start
slice_bounds-find_matching_paren-start c =
    let long : 3 ≤ length c.args.s.now = starts-long lr_name c.args.s.now (sym c.starts_with.ensures ∙ c.if-not-starts_with.false) in long

pub find_matching_paren-requires : goal.find_matching_paren-requires
find_matching_paren-requires c = simp (length-take, length-drop) (omega arith)

pub returns : goal.returns
returns c =
    let met = sym c.starts_with.ensures ∙ c.if-not-starts_with.false in
    called-by (λ s. s) lr_name c.args.s.now _ met refl (closes-rest c.args.s.now 3 find_matching_paren c.find_matching_paren.ensures)
