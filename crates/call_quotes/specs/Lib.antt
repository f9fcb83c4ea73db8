-- What the contracts of `call_quotes` cite.
pub mod Quotes
