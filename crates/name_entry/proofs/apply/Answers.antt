-- `name_entry::apply` meets its contract: where there is no match the text is left as it is, and else the rewritten text is judged. Assumes nothing.
use Rattle.spec.specs.Sweep.{sweep}
use Rattle.text.specs.Untouched.{untouched-same, nothing-unmatched, searched-unmatched, searched-matched}
use Rattle.name_entry.specs.Bounded.{bounded, bounded-at-pattern, bounded-keeps}
use Rattle.name_entry.specs.Sized.{unmatched-within, written-within}
use Rattle.name_entry.proofs.apply.Goals as goal

pub returns-in_default : goal.returns-in_default
returns-in_default c =
    let none = nothing-unmatched (bounded-at-pattern c.args.entry.now.bounds c.args.entry.now.pattern.now) c.due_for.ensures c.in_default.is in
    record { staged_within = unmatched-within c.args.text c.args.extra c.requires.ready c.requires.fits_with_blocks (bounded-keeps c.args.entry.now.bounds c.requires.entry_texts_fit) none; untouched = untouched-same }

pub returns-then-not-is_matched : goal.returns-then-not-is_matched
returns-then-not-is_matched c =
    let none = searched-unmatched (bounded-at-pattern c.args.entry.now.bounds c.args.entry.now.pattern.now) c.due_for.ensures c.in-Some.is c.is_matched.ensures c.if-not-is_matched.true in
    record { staged_within = unmatched-within c.args.text c.args.extra c.requires.ready c.requires.fits_with_blocks (bounded-keeps c.args.entry.now.bounds c.requires.entry_texts_fit) none; untouched = untouched-same }

pub returns : goal.returns
returns c =
    record {
      staged_within = written-within c.args.extra c.due_for.ensures c.requires.fits_with_blocks c.in-Some.is (sweep (bounded c.args.entry.now.bounds c.args.entry.now.pattern.now c.args.entry.now.fresh.now) 0 0)
          c.rewrite.ensures c.finished.ensures;
      untouched = searched-matched (bounded-at-pattern c.args.entry.now.bounds c.args.entry.now.pattern.now) c.due_for.ensures c.in-Some.is c.is_matched.ensures c.if-not-is_matched.false;
    }
