-- What the contracts of `call_commas` cite.
pub mod Commas
pub mod Searched
pub mod Split
