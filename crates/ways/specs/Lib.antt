-- The definitions of `ways`.
pub mod Looks
pub mod Map
