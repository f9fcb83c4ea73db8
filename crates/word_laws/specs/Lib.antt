-- What holds of the word under the pointer.
pub mod Longest
pub mod SameWords
