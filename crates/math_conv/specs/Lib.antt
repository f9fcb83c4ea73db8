-- What the entry's contract cites, and laws about it.
pub mod Steps
pub mod Fits
