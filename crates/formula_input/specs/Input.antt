-- What the code reads of the input, by the definitions. Assumes nothing.
--     asked          the display that a first line asks for
use Rattle.std.specs.Prelude.{Bool, true, false, Option as Maybe, Some, None}
use Rattle.std.proofs.Math.Option.{Option, none, some}

abbrev pub asked : Maybe Bool → Option Bool
asked (Some display) = some display
asked None = none

abbrev pub is_asked : Option Bool → Bool
is_asked (some display) = true
is_asked none = false
