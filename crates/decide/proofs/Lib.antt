-- The laws of `decide`, in the order in which they stand on each other.
pub mod SetCases
pub mod DecideCases
pub mod Rules
pub mod Mapped
pub mod Determined
