-- `held_stages::hold_both` meets its contract: two passes, the second over what the first has left. Assumes nothing.
use Rattle.std.proofs.Common.{refl, false, [], ◌∷◌, arith}
use Rattle.spec.specs.Matches.{text_opening, roman_opening}
use Rattle.spec.specs.Laws.Booleans.{or_left}
use Rattle.text.specs.Untouched.{untouched-alike, any-parts, untouched-matched, untouched-then}
use Rattle.held_stages.specs.Outside.{passed-none, passed-some, both-none, hold-second, second-extra, both-counted}
use Rattle.held_stages.proofs.hold_both.Goals as goal

pub overflow_mul-held : goal.overflow_mul-held
overflow_mul-held c = let h = (hold-second c.requires c.hold_texts-first.ensures.held_from).small in omega arith

pub hold-requires-clause-hold : goal.hold-requires-clause-hold
hold-requires-clause-hold c = hold-second c.requires c.hold_texts-first.ensures.held_from

pub returns-in_default : goal.returns-in_default
returns-in_default c =
    let first = c.hold_texts-first.ensures in let none = passed-none c.hold.ensures c.in_default.is in
    rw none.0 (record {
      held_from = both-none c.requires first.held_from none.1;
      untouched = untouched-alike (λ s none. (any-parts (text_opening ∷ []) (roman_opening ∷ []) s none).0) first.untouched;
    })

pub overflow_sub-result-2 : goal.overflow_sub-result-2
overflow_sub-result-2 c = second-extra c.requires c.hold_texts-first.ensures.held_from (passed-some c.hold.ensures c.in-Some.is).1

pub returns : goal.returns
returns c =
    let first = c.hold_texts-first.ensures in let some = passed-some c.hold.ensures c.in-Some.is in
    record {
      held_from = both-counted c.requires first.held_from some.1;
      untouched = untouched-then (text_opening ∷ []) (roman_opening ∷ []) first.untouched (untouched-matched refl (or_left false some.0));
    }
