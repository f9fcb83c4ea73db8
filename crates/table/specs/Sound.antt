-- What number 3 makes of a table: it refuses it, or the table has definitions.
--     refused            number 3 refuses the table
--     not-refused        a table that it does not refuse has definitions
-- Assumes nothing.
use Rattle.std.specs.Prelude.{◌≡◌, refl, Bool, true, false, List}
use Rattle.std.proofs.Common.{sym}
use Rattle.std.proofs.lemmas.Bool.{false≢true}
use Rattle.std.proofs.Math.Option.{Option, none, some}
use Rattle.spec.specs.Table.{Definition}

abbrev pub refused : Option (List Definition) → Bool
refused none = true
refused (some ds) = false

pub not-refused : (o : Option (List Definition)) → refused o ≡ false → (ds : List Definition) × (o ≡ some ds)
not-refused none e = absurd (false≢true (sym e))
not-refused (some ds) e = (ds, refl)
