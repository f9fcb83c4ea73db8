-- What the program's contracts cite.
pub mod Fits
pub mod Recorded
