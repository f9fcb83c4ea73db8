-- What the brace step does with one symbol. Assumes nothing.
--     bare_behind     whether it is written as it is
--     stack_behind    the step's stack behind it
use Rattle.std.specs.Prelude.{Bool, true, false, List, ◌∷◌, ℕ}
use Rattle.spec.specs.Symbols.{is}
use Rattle.spec.specs.Finish.{groups_behind, top, popped}

abbrev pub bare_behind : List Bool → ℕ → ℕ → Bool
bare_behind stack before x = elim (is "{" x) [ true ↦ groups_behind before | false ↦ elim (is "}" x) [ true ↦ top stack | false ↦ true ] ]

abbrev pub stack_behind : List Bool → ℕ → ℕ → List Bool
stack_behind stack before x = elim (is "{" x) [ true ↦ groups_behind before ∷ stack | false ↦ elim (is "}" x) [ true ↦ popped stack | false ↦ stack ] ]
