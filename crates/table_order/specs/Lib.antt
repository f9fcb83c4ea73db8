-- What the contracts of `table_order` cite.
pub mod Order
