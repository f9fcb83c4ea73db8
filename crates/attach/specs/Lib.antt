-- What the contracts of `attach` cite.
pub mod Attach
pub mod Weight
pub mod Once
pub mod Subscript
pub mod Turns
pub mod Settled
