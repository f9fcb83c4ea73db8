-- What the contracts of `formula_input` cite.
pub mod Input
