-- What the contracts of `quotes` cite.
pub mod Quotes
