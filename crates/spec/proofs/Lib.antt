-- Laws that an edit of a definition under them must refute.
pub mod Braces
