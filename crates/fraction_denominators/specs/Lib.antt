-- The laws of the searches after a slash.
pub mod Past
pub mod After
