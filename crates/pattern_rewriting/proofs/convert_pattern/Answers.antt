-- `pattern_rewriting::convert_pattern` meets its contract: where there is no match the text is left as it is, and else the rewritten text is judged. Assumes nothing.
use Rattle.pattern_rewriting.specs.Edits.{pattern_rule, rule-at-pattern, rule-keeps, rule-waits}
use Rattle.text.specs.Due.{staged-absent, staged-kept, staged-appended}
use Rattle.text.specs.Untouched.{untouched-same, search-answered, searched-matched}
use mathlib.Core.Path.{◌∙◌}
use Rattle.spec.specs.Sweep.{sweep}
use Rattle.spec.specs.Laws.Sweep.{sweep-absent}
use Rattle.spec.specs.Laws.Matches.{sweep-unmatched}
use Rattle.pattern_rewriting.proofs.convert_pattern.Goals as goal

pub returns-in_default : goal.returns-in_default
returns-in_default c =
    record {
      staged = staged-absent c.due_for.ensures c.in_default.is (sweep (pattern_rule c.args.rewriting.kind c.args.rewriting.pattern.now c.args.rewriting.left.now) 0 0)
          (λ s absent. sweep-absent (rule-waits c.args.rewriting.kind c.args.rewriting.pattern.now c.args.rewriting.left.now) s 0 absent);
      untouched = untouched-same;
    }

pub returns-then-not-is_matched : goal.returns-then-not-is_matched
returns-then-not-is_matched c =
    let awaited = c.due_for.ensures in let none = search-answered (rule-at-pattern c.args.rewriting.kind c.args.rewriting.pattern.now) awaited c.in-Some.is c.is_matched.ensures ∙ c.if-not-is_matched.true in
    record { staged = staged-kept awaited c.in-Some.is (sweep (pattern_rule c.args.rewriting.kind c.args.rewriting.pattern.now c.args.rewriting.left.now) 0 0) (sweep-unmatched (rule-keeps c.args.rewriting.kind c.args.rewriting.pattern.now c.args.rewriting.left.now) _ 0 none); untouched = untouched-same }

pub returns : goal.returns
returns c =
    let awaited = c.due_for.ensures in record { staged = staged-appended awaited c.in-Some.is (sweep (pattern_rule c.args.rewriting.kind c.args.rewriting.pattern.now c.args.rewriting.left.now) 0 0) c.rewrite.ensures c.finished.ensures; untouched = searched-matched (rule-at-pattern c.args.rewriting.kind c.args.rewriting.pattern.now) awaited c.in-Some.is c.is_matched.ensures c.if-not-is_matched.false }
