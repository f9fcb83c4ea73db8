-- What the contracts of `sizing` cite.
pub mod Levels
pub mod Alike
pub mod Pieces
pub mod Turns
