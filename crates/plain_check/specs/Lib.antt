-- What the contracts of `plain_check` cite, and the theorems that tie the check to the grammar.
pub mod Tokens
pub mod Readers
pub mod Rooms
pub mod Steps
pub mod Series
pub mod Atoms
pub mod Trees
pub mod Complete
pub mod Sound
pub mod Check
pub mod Agreement
pub mod Examples
