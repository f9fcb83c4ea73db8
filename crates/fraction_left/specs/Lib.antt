-- What the contracts of `fraction_left` cite, and the laws of the marks.
pub mod Left
