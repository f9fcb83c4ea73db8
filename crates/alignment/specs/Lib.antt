-- What the contracts of `alignment` cite.
pub mod Breaks
pub mod Lines
pub mod Aligned
