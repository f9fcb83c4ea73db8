-- What the stages ask of a text, and how one follows another.
pub mod Fit
pub mod Chain
