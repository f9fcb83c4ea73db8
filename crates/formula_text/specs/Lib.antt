-- What the contracts cite, and laws about it.
pub mod Cut
pub mod Runs
pub mod Examples
