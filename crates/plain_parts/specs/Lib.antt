-- What the contracts of `plain_parts` cite.
pub mod Parts
