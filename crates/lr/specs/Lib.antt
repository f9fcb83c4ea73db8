-- What the contracts of `lr` cite.
pub mod Reached
pub mod Lr
