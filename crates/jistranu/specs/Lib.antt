-- What the exported functions' proofs cite.
pub mod Answered
