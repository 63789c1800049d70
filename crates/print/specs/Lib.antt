-- The definitions of `print`.
pub mod Lines
pub mod Rows
pub mod Told
pub mod Zeros
