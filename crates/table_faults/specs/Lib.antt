-- What the contracts of `table_faults` cite.
pub mod Faults
