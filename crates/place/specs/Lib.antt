-- The definitions of `place`.
pub mod Places
pub mod Held
pub mod Slots
pub mod Methods
