-- What the exported numbers mean.
pub mod Codes
