-- The laws of `session`.
pub mod Rows
pub mod Writing
pub mod Cases
pub mod Frames
pub mod Saving
pub mod Reading
pub mod Round
pub mod Determined
pub mod Lines
