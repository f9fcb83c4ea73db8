-- A chain, of which the first round leaves a slash: its rounds are not the Rust's, so that `fractions-as-rust` has to ask for what it asks, and it wants as
-- many rounds as it has slashes, so that `few-slashes-settle` allows no more. Assumes nothing.
use Rattle.std.specs.Prelude.{◌≡◌, refl, true}
use Rattle.spec.specs.Symbols.{bytes}
use Rattle.spec.specs.Result.{passed, refused}
use Rattle.spec.specs.Fractions.{settle, convert_fractions}
use Rattle.stage_laws.specs.RustFractions.{rust_fractions}
use Rattle.stage_laws.specs.LeftSlashes.{leaves}

-- the slash before 3
pub chain-leaves : leaves (bytes "1/2/3") ≡ true
unfolding leaves
chain-leaves = refl

pub chain-nests : convert_fractions (bytes "1/2/3") ≡ passed (bytes "\\frac{\\frac{1}{2}}{3}")
unfolding convert_fractions
chain-nests = refl

-- the brace that the first fraction ends with is dropped as if it were the numerator 2
pub rust-chain : rust_fractions (bytes "1/2/3") ≡ passed (bytes "\\frac{1}{2\\frac{2}{3}")
unfolding rust_fractions
rust-chain = refl

pub one-round-too-few : settle 1 (bytes "1/2/3") ≡ refused 7
unfolding settle
one-round-too-few = refl
