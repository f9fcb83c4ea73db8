-- What the contracts of `fraction_operands` cite, and the laws that the searches on both sides of a slash share.
pub mod Places
pub mod Strip
pub mod Groups
