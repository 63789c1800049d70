-- The definitions of `decide`.
pub mod Sets
pub mod Decide
pub mod Ways
