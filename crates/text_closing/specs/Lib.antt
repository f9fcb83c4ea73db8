-- What the contracts of `text_closing` cite.
pub mod Closing
pub mod Backward
pub mod Level
