-- The laws of `saved`.
pub mod Counts
pub mod ReadCases
pub mod SaveCases
pub mod Giving
pub mod OneAnswer
pub mod Determined
pub mod Promises
