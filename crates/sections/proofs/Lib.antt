-- The laws of `sections`.
pub mod Determined
