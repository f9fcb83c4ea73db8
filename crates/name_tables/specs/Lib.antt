-- The stages that apply the rows of a table of names.
pub mod Kinds
