-- The laws of `evaluate`, in the order in which they stand on each other.
pub mod Values
pub mod Truths
pub mod Determined
