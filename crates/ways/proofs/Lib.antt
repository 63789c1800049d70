-- The laws of `ways`, in the order in which they stand on each other.
pub mod MapCases
pub mod Determined
