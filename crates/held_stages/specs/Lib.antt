-- Holding blocks out and putting them back, around the stages that rewrite the text between them.
pub mod Outside
pub mod Carried
