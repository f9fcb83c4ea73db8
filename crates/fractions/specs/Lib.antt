-- What the contracts of `fractions` cite, and the laws of the rounds.
pub mod Settle
