-- What the contracts of `text` and of the stages above it cite.
pub mod Writer
pub mod Written
pub mod Filling
pub mod Sweep
pub mod Stage
pub mod Due
pub mod Untouched
