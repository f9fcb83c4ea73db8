-- Tables of names, as the code holds them.
pub mod Rows
