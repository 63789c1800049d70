-- The definitions of `program`.
pub mod Says
pub mod Check
pub mod Arrays
