-- What the contracts of `entry_ends` cite, and laws about it.
pub mod Answer
pub mod Ways
