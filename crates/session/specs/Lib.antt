-- The definitions of `session`.
pub mod Session
pub mod Parts
pub mod Reader
pub mod Answers
