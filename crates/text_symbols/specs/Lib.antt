-- What the contracts of `text_symbols` and of the crates above it cite.
pub mod Parts
pub mod Places
pub mod Runs
pub mod Trim
