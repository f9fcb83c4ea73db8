-- `text_search::pass` meets its contract. The loop's invariant: the symbol does not stand from i up to k. Assumes nothing.
use Prim.Native.Nat.{◌+◌, ◌-◌}
use mathlib.Core.Path.{◌≡◌, sym, ap, ◌∙◌, subst}
use lib.Dec.{eqb}
use lib.ListN.{length, length-take, length-drop}
use native.Mathlib.Omega.{arith}
use Rattle.spec.specs.Symbols.{any}
use Rattle.text_symbols.specs.Parts.{part, whole_part}
use Rattle.text_search.specs.Search.{Passed, passed_none, passed-part}
use Rattle.text_search.proofs.pass.Goals as goal

pub loop-k-init : goal.loop-k-init
loop-k-init c = passed_none c.requires

pub overflow_sub-s : goal.overflow_sub-s
overflow_sub-s c = c.loop-k.invariant.within

pub slice_bounds-is_among-end : goal.slice_bounds-is_among-end
slice_bounds-is_among-end c = let w = c.loop-k.invariant.within in omega arith

pub is_among-requires : goal.is_among-requires
is_among-requires c = let w = c.loop-k.invariant.within in simp (length-take, length-drop) (omega arith)

pub returns-then-is_among : goal.returns-then-is_among
returns-then-is_among c =
    c.loop-k.invariant

pub loop-k-smaller : goal.loop-k-smaller
loop-k-smaller c =
    let w = c.loop-k.invariant.within in omega arith

pub loop-k-preserved : goal.loop-k-preserved
loop-k-preserved c =
    let w = c.loop-k.invariant.within in
    passed-part 8 c.loop-k.k c.loop-k.invariant (omega arith) (omega arith) (omega arith) (ap (any (λ x. eqb x c.args.b)) (sym (whole_part c.loop-k.k 8 c.args.s.now)) ∙ sym c.is_among.ensures ∙ c.if-is_among.false)

pub returns-then-s-lt8 : goal.returns-then-s-lt8
returns-then-s-lt8 c = c.loop-k.invariant

pub is_among-requires-2 : goal.is_among-requires-2
is_among-requires-2 c = simp (length-take, length-drop) (omega arith)

pub returns-then-is_among-2 : goal.returns-then-is_among-2
returns-then-is_among-2 c =
    c.loop-k.invariant

pub returns : goal.returns
returns c =
    let w = c.loop-k.invariant.within in
    let long : length c.args.s.now - 8 + 8 ≡ length c.args.s.now = omega arith in
    let eight : length c.args.s.now - (length c.args.s.now - 8) ≡ 8 = omega arith in
    subst (Passed c.args.s.now c.args.i c.args.b) long
    (passed-part 8 (length c.args.s.now - 8) c.loop-k.invariant (omega arith) (omega arith) (omega arith)
    (ap (λ n. any (λ x. eqb x c.args.b) (part (length c.args.s.now - 8) n c.args.s.now)) (sym eight) ∙ sym c.is_among-2.ensures ∙ c.if-is_among-2.false))
