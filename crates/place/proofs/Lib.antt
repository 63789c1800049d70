-- The laws of `place`.
pub mod Cases
pub mod Held
pub mod Laws
pub mod Determined
