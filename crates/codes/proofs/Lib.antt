-- The laws of `codes`.
pub mod Digits
pub mod Cases
pub mod Rows
pub mod Determined
