-- What the contracts of `table_names` cite.
pub mod Named
