-- `call_single::convert_floor_ceil_abs` meets its contract: six stages one after another. Assumes nothing.
use Rattle.text.specs.Stage.{staged-then}
use Rattle.call_single.proofs.convert_floor_ceil_abs.Goals as goal

pub returns : goal.returns
returns c =
    let floor-ceil = staged-then c.convert_floor-text.ensures c.convert_ceil-text.ensures in
    let to-cal = staged-then (staged-then floor-ceil c.convert_abs-text.ensures) c.convert_cal-text.ensures in
    staged-then (staged-then to-cal c.convert_frak-text.ensures) c.convert_upright_again.ensures
