-- Entries: the rule of each kind, and what a stage that applies one promises.
pub mod Bounded
pub mod Sized
pub mod Turns
pub mod Seen
