-- The definitions of `files`.
pub mod Told
