-- The definitions of a table, each a stage that counts held blocks in full.
pub mod Applying
