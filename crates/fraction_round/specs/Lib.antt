-- What the contracts of `fraction_round` cite, and the laws of a round.
pub mod Slash
pub mod Writing
pub mod Turn
