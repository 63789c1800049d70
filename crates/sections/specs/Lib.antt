-- The definitions of `sections`.
pub mod Look
