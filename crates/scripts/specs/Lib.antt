-- Laws that the proofs of `scripts` cite.
pub mod Scripts
