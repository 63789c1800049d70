-- The laws of records.
pub mod Bytes
pub mod Offsets
pub mod Thirteen
pub mod Sound
pub mod Complete
pub mod Sizes
pub mod Asked
pub mod Walking
pub mod Cases
pub mod Turns
pub mod Determined
