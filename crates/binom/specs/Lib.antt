-- What the contracts of `binom` cite.
pub mod Binom
