-- `pattern_rewriting::rules::edit_at` meets its contract, by the rule of each kind. Assumes nothing.
use Rattle.pattern_rewriting.specs.Edits.{edited-not}
use mathlib.Core.Path.{sym, ◌∙◌}
use Rattle.pattern_rewriting.proofs.rules.edit_at.Goals as goal

pub returns-then-not-starts_with : goal.returns-then-not-starts_with
returns-then-not-starts_with c =
    λ left. edited-not c.args.rewriting.now.kind c.args.rewriting.now.pattern.now left c.args.s.now (sym c.starts_with.ensures ∙ c.if-not-starts_with.true)

pub returns-in-Literal : goal.returns-in-Literal
returns-in-Literal c = λ left. rw c.in-Literal.is (c.literal.ensures left)

pub returns-in-ParenToBrace : goal.returns-in-ParenToBrace
returns-in-ParenToBrace c = λ left. rw c.in-ParenToBrace.is (c.paren_to_brace.ensures left)

pub returns-in-WrapText : goal.returns-in-WrapText
returns-in-WrapText c = λ left. rw c.in-WrapText.is (c.wrap_text.ensures left)

pub returns-in-WrapMultichar : goal.returns-in-WrapMultichar
returns-in-WrapMultichar c = λ left. rw c.in-WrapMultichar.is (c.wrap_multichar.ensures left)
