-- Laws about held blocks, on `spec` alone: their marks, holding out and putting back, and stages around them.
pub mod Marks
pub mod WellMade
pub mod Enclosed
pub mod InFull
pub mod TakeOut
pub mod Holding
pub mod Rewriting
pub mod Instances
pub mod Kept
pub mod Limits
