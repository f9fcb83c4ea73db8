-- The stages that apply the tables' rows while blocks are held out.
pub mod Outside
