-- What the contracts of `held_blocks` cite.
pub mod Filing
pub mod HoldOut
pub mod Back
pub mod Keeping
pub mod Holds
