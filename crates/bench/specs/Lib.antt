-- The definitions of `bench`.
pub mod Numbers
pub mod Answers
pub mod Inner
