-- Half of the work buffer. Assumes nothing.
use Rattle.std.specs.Prelude.{ℕ}

-- the two regions that texts lie in are its lower half, and `attach` takes each half for a text, so no text that is searched is longer
abbrev pub half_work : ℕ
half_work = 16384
