-- What the contracts of `call_rewriting` cite.
pub mod Delimiters
pub mod First
