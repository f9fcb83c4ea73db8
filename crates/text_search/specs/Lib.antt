-- What the contracts of `text_search` and of the crates above it cite.
pub mod Half
pub mod Search
pub mod Matched
