-- `definitions::apply_definitions` meets its contract. The loop's invariant: the definitions from the cursor on are left. Assumes nothing.
use Rattle.std.proofs.Common.{ap}
use Rattle.spec.specs.Table.{definitions}
use Rattle.name_entry.specs.Sized.{remaining-ready, remaining-all}
use Rattle.table.specs.Reading.{stands-found}
use Rattle.table.specs.Sound.{not-refused}
use Rattle.table_order.specs.Order.{chosen, next-done}
use Rattle.definitions.specs.Applying.{next-step, next-fewer, left-none, left-more, left-done, left-untouched, next-usable}
use Rattle.definitions.proofs.apply_definitions.Goals as goal

pub loop-found-init : goal.loop-found-init
loop-found-init c = (tt, λ ds e. left-none c.args.table.now ds c.args.extra e c.requires.ready c.requires.fits_with_blocks)

pub apply_definition-done-requires : goal.apply_definition-done-requires
apply_definition-done-requires c =
    let known = not-refused (definitions c.args.table.now) c.requires.not_refused in
    let left = c.loop-found.invariant.1 known.0 known.1 in
    let stands = stands-found c.next.ensures.stands c.in-Some.is in
    record {
      ready = remaining-ready left.stages c.requires.ready;
      fits_with_blocks = left.stages.within;
      usable = next-usable c.args.table.now c.loop-found.cursor c.in-Some.found (next-step c.next.ensures c.requires.not_refused c.in-Some.is) left.sound stands.0 stands.1;
    }

pub loop-found-smaller : goal.loop-found-smaller
loop-found-smaller c = next-fewer c.next.ensures c.requires.not_refused c.in-Some.is

pub loop-found-preserved : goal.loop-found-preserved
loop-found-preserved c = (
  (stands-found c.next.ensures.stands c.in-Some.is).0,
  λ ds e. left-more c.args.table.now c.loop-found.cursor c.in-Some.found (next-step c.next.ensures c.requires.not_refused c.in-Some.is) (c.loop-found.invariant.1 ds e)
      (c.apply_definition-done.ensures.staged_within, c.apply_definition-done.ensures.untouched),
)

pub returns : goal.returns
returns c =
    let none_left = next-done c.next.ensures (ap (chosen c.args.table.now) c.in_default.is) in
    record {
      staged_within = λ ds e. remaining-all (c.loop-found.invariant.1 ds e).stages (left-done c.args.table.now c.loop-found.cursor c.args.extra none_left);
      untouched = λ ds e. left-untouched (c.loop-found.invariant.1 ds e);
    }
