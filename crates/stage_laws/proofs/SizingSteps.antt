-- One step of sizing, where all five commands count as tall, is the Rust's. Assumes nothing.
use Rattle.std.specs.Prelude.{◌≡◌, refl, List, [], ◌∷◌, ℕ}
use Rattle.spec.specs.Finish.{all_tall, tall_group, size_step}
use Rattle.stage_laws.specs.RustSizing.{rust_tall_group, rust_size_step}

pub step-as-rust : (go : List ℕ → List ℕ → List ℕ) (o s : List ℕ) → size_step all_tall go o s ≡ rust_size_step go o s
unfolding size_step tall_group rust_size_step rust_tall_group
step-as-rust go o [] = refl
step-as-rust go o (x ∷ s) = refl
