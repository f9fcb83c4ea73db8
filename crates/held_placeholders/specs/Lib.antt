-- The Rust's numbered placeholders, and that its put-back is every block at its own mark wherever it loses none.
pub mod Numbered
pub mod Fill
pub mod Decimal
pub mod Replacing
pub mod Broken
pub mod Remains
pub mod Losing
pub mod Round
pub mod Agree
pub mod Stored
pub mod Numbering
pub mod ByNumber
pub mod Placeholders
pub mod Finding
pub mod Numbers
pub mod Commutes
