-- The laws of `lines`.
pub mod Counting
