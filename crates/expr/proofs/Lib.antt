-- The laws of `expr`, in the order in which they stand on each other.
pub mod Layer
pub mod Format
pub mod Agree
pub mod Ends
pub mod Names
pub mod Knowns
pub mod Vectors
pub mod Determined
