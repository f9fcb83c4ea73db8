-- What the contracts of `pattern_rewriting` cite.
pub mod Edits
pub mod Turns
