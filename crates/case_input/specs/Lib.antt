-- What the contracts of `case_input` cite.
pub mod Lengths
