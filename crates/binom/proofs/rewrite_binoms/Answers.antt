-- `binom::rewrite_binoms` meets its contract. The loop's invariant is that of a sweep, at place i. Assumes nothing.
use Rattle.binom.specs.Binom.{binom-uncalled, call-unparted, call-parted, binom-copied, binom-fits, binom-written}
use Rattle.text.specs.Sweep.{sweeping-none, sweeping-all}
use Rattle.spec.specs.Calls.{convert_binom}
use mathlib.Core.Path.{refl}
use native.Mathlib.Omega.{arith}
use Rattle.binom.proofs.rewrite_binoms.Goals as goal

pub loop-i-init : goal.loop-i-init
loop-i-init c = sweeping-none _ c.requires.0

pub loop-i-preserved-in_default : goal.loop-i-preserved-in_default
loop-i-preserved-in_default c =
    binom-copied c.loop-i.invariant (omega arith) (binom-uncalled _ c.call_at.ensures c.in_default.is) refl c.copy_one-out.ensures

pub loop-i-preserved-in_default-find_comma_in_args : goal.loop-i-preserved-in_default-find_comma_in_args
loop-i-preserved-in_default-find_comma_in_args c =
    let none = call-unparted c.args.source.at c.args.source.n c.loop-i.i c.loop-i.work c.call_at.ensures c.in-Some.is c.find_comma_in_args.ensures c.in_default-find_comma_in_args.is in
    binom-copied c.loop-i.invariant c.loop-i-test.true none refl c.copy_one-out-in_default-find_comma_in_args.ensures

pub put_parted-out-requires-clause-k_in_bounds : goal.put_parted-out-requires-clause-k_in_bounds
put_parted-out-requires-clause-k_in_bounds c =
    let some = call-parted c.args.source.at c.args.source.n c.loop-i.i c.loop-i.work c.call_at.ensures c.in-Some.is c.find_comma_in_args.ensures c.in-Some-find_comma_in_args.is in
    let f = binom-fits c.loop-i.invariant c.loop-i-test.true some refl in
    (omega arith, some.comma-within)

pub loop-i-preserved : goal.loop-i-preserved
loop-i-preserved c =
    let put = c.put_parted-out.ensures in
    let some = call-parted c.args.source.at c.args.source.n c.loop-i.i c.loop-i.work c.call_at.ensures c.in-Some.is c.find_comma_in_args.ensures c.in-Some-find_comma_in_args.is in
    binom-written c.loop-i.invariant c.loop-i-test.true some refl put.0 put.1

pub returns : goal.returns
unfolding convert_binom
returns c = sweeping-all c.loop-i.invariant (omega arith)
