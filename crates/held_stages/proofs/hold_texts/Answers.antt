-- `held_stages::hold_texts` meets its contract. Assumes nothing.
use Rattle.held_stages.specs.Outside.{passed-none, passed-some, texts-none, first-extra, texts-counted}
use Rattle.held_stages.proofs.hold_texts.Goals as goal

pub returns-in_default-clause-held_from : goal.returns-in_default-clause-held_from
returns-in_default-clause-held_from c =
    let none = passed-none c.hold.ensures c.in_default.is in rw none.0 (texts-none c.requires none.1)

pub overflow_sub-result-2 : goal.overflow_sub-result-2
overflow_sub-result-2 c = first-extra c.requires (passed-some c.hold.ensures c.in-Some.is).1

pub returns-clause-held_from : goal.returns-clause-held_from
returns-clause-held_from c = texts-counted c.requires (passed-some c.hold.ensures c.in-Some.is).1
