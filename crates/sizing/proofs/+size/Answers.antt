-- `sizing::size` meets its contract: each turn of its loop writes what the piece at place i stands for. Assumes nothing.
use native.Mathlib.Omega.{arith}
use Prim.Native.Nat.{◌+◌}
use mathlib.Core.Path.{refl, sym, subst}
use lib.ListN.{drop, length-take}
use Rattle.spec.specs.Finish.{size_delimiters_to_content}
use Rattle.text.specs.Filling.{Filling, filling-none, filling-all}
use Rattle.text.specs.Writer.{appended-long}
use Rattle.text_symbols.specs.Parts.{part, length_part}
use Rattle.sizing.specs.Turns.{sized-first, sized-end, kept-fits, kept_more, grown-fits, grown-more}
use Rattle.sizing.proofs.+size.Goals as goal

pub loop-i-init : goal.loop-i-init
loop-i-init t c =
    let a = c.args in
    let s = part a.source.at a.source.n a.work.now in (
      omega arith,
      refl,
      refl,
      omega arith,
      subst (λ r. Filling a.work.now a.work.now a.out.now a.out.now r (size_delimiters_to_content a.field s)) (sym (sized-first a.field s)) (filling-none _ _ _),
    )

-- the symbols that are copied
pub loop-i-preserved-in-Keep : goal.loop-i-preserved-in-Keep
loop-i-preserved-in-Keep t c =
    let f = kept-fits c.args.field c.loop-i.i c.requires c.loop-i.invariant.4 _ c.piece_at.ensures c.in-Keep.is in
    let a = c.copy.ensures in
    let n = a.counted in
    let m = length-take c.in-Keep.k (drop (c.args.source.at + c.loop-i.i) c.loop-i.work) in
    let long = appended-long a in
    (f, refl, omega arith, omega arith, kept_more c.args.field c.loop-i.i c.requires c.loop-i.invariant.4 _ c.piece_at.ensures c.in-Keep.is a)

-- the group that is sized
pub loop-i-preserved : goal.loop-i-preserved
loop-i-preserved t c =
    let f = grown-fits c.args.field c.loop-i.i c.requires c.loop-i.invariant.4 _ c.piece_at.ensures c.in-Tall.is in
    let left = c.put_sized.ensures in
    let inner = c.size.ensures in
    let right = c.put_sized-in-Tall.ensures in
    let long = appended-long left in
    let longer = appended-long inner.appended in
    let longest = appended-long right in
    let n = left.counted in
    let m = inner.few in
    let q = right.counted in (
      f,
      refl,
      omega arith,
      omega arith,
      grown-more c.args.field c.loop-i.i c.requires c.loop-i.invariant.4 _ c.piece_at.ensures c.in-Tall.is left inner c.closer_of.ensures right,
    )

pub returns : goal.returns
returns t c =
    let g = length_part c.args.source.at c.args.source.n c.args.work.now c.requires.source in
    record {
      appended = filling-all c.loop-i.invariant.4 (sized-end c.args.field (part c.args.source.at c.args.source.n c.args.work.now) c.loop-i.i (omega arith));
      few = omega arith;
    }
