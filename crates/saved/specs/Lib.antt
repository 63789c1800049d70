-- The definitions of `saved`.
pub mod Answers
