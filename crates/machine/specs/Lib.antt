-- The definitions of `machine`.
pub mod Walk
pub mod Copies
pub mod Answers
pub mod Whole
