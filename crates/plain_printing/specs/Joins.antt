-- Two texts joined by ` + `: document 02's A10. Assumes nothing.
use Rattle.std.specs.Prelude.{List, ◌++◌, ℕ, ◌+◌}
use Rattle.spec.specs.Symbols.{bytes}

-- ---- texts and sums
abbrev pub joined : List ℕ → List ℕ → List ℕ
joined s t = s ++ bytes " + " ++ t
