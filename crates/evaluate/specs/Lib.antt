-- The definitions of `evaluate`.
pub mod Answers
