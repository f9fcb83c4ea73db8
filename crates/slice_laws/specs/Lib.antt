-- What std's tests of slices say, by the definitions.
pub mod Tests
