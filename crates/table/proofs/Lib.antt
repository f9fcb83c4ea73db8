-- What the proofs of a crate that reads records use.
pub mod Tags
