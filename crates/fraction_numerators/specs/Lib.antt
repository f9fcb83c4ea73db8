-- The laws of the searches before a slash.
pub mod Before
pub mod Script
