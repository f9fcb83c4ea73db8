-- Laws that an edit of a definition under them must refute, in the order in which they stand on each other.
pub mod SameLimits
pub mod SameRecords
pub mod LeftSlashes
pub mod LeftExample
pub mod FractionStages
pub mod SizingSteps
pub mod SizingStages
pub mod TablesExample
pub mod RoundCourse
pub mod Rewritings
