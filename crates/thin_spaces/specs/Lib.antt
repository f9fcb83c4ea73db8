-- What the contracts of `thin_spaces` cite.
pub mod Thin
