-- `sizing::pieces::tall_at` meets its contract, by the delimiter. Assumes nothing.
use Rattle.sizing.specs.Pieces.{TallIn, tall-closed, tall-open, closer_of}
use Rattle.spec.specs.Finish.{already_sized}
use Rattle.text_symbols.specs.Parts.{rest_of}
use Rattle.text_symbols.specs.Places.{before}
use lib.ListN.{get_or}
use mathlib.Core.Bool.{not, ◌||◌}
use mathlib.Core.Path.{refl, ap, ap₂, subst}
use Prim.Native.Nat.{◌+◌}
use Rattle.sizing.proofs.pieces.tall_at.Goals as goal
use Rattle.sizing.proofs.pieces.tall_at.Goals.{then-not-opens-via-then-not-opens, then-not-opens-via-else-not-opens+then-is_sized}

-- no delimiter that opens, or one that has its size
pub returns-then-not-opens : goal.returns-then-not-opens
returns-then-not-opens c =
    let s = c.args.s.now in
    elim c.then-not-opens.branch [
      | then-not-opens-via-then-not-opens w ↦ tall-closed c.args.field s c.args.i refl (ap (λ a. not a || already_sized (before s c.args.i)) w.if-not-opens.true)
      | then-not-opens-via-else-not-opens+then-is_sized w ↦ tall-closed c.args.field s c.args.i w.is_sized.ensures (ap₂ (λ a b. not a || b) w.if-not-opens.false w.if-is_sized.true)
    ]

pub returns : goal.returns
returns c =
    let b = get_or c.args.s.now c.args.i 0 in
    tall-open c.args.field c.args.s.now c.args.i c.is_sized.ensures (ap₂ (λ a b. not a || b) c.if-not-opens.false c.if-is_sized.false)
    (subst (λ u. TallIn c.args.field u b (closer_of b) c.tall_inside.result) (rest_of (c.args.i + 1) c.args.s.now) (rw c.closer_of.ensures at c.tall_inside.ensures))
