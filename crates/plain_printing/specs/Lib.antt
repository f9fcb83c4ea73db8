-- What a plain formula prints, and that no two print alike.
pub mod Tree
pub mod Classes
pub mod Nest
pub mod Local
pub mod Rule
pub mod Sweeps
pub mod CallsCopy
pub mod Blocks
pub mod Yields
pub mod Calls
pub mod Joins
pub mod Needed
