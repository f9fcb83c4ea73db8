-- What the contracts of `word_at` cite, and laws about it.
pub mod Parts
pub mod Ways
