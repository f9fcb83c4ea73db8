-- What holds of the stages' results.
pub mod Late
pub mod Answers
pub mod Each
pub mod Calls
pub mod Quotes
pub mod Stages
pub mod Outside
pub mod SameRecords
pub mod StoredTables
pub mod RustCalls
pub mod PassedOver
pub mod CallStages
pub mod RustFractions
pub mod LeftSlashes
pub mod RustSizing
pub mod OperandLengths
pub mod Slashes
