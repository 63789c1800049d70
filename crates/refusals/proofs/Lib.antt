-- The laws of `refusals`.
pub mod Determined
