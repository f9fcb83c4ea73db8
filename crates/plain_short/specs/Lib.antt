-- What the contracts of `plain_short` cite.
pub mod Spelling
pub mod Printed
