-- Laws that an edit of a definition under them must refute, in the order in which they stand on each other.
pub mod PutBack
pub mod OneName
pub mod Stuck
pub mod Romans
pub mod Literal
pub mod Whole
pub mod Before
