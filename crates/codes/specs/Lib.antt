-- The definitions of `codes`.
pub mod Codes
pub mod Numbers
