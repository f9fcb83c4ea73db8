-- What the contracts cite, and laws about it.
pub mod Decimal
pub mod Standing
