-- The laws of `fits`.
pub mod Cases
pub mod Nest
pub mod Few
pub mod Entries
pub mod Chains
pub mod FitsLaw
pub mod Determined
