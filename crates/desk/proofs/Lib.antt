-- The laws of `desk`.
pub mod Cases
pub mod OneAnswer
pub mod Determined
pub mod Promises
