-- The definitions of `desk`.
pub mod Desk
pub mod Whole
