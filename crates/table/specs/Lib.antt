-- What the contracts of `table` and of the crates above it cite.
pub mod Records
pub mod Reading
pub mod Listed
pub mod Sound
