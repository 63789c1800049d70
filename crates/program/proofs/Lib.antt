-- The laws of program files.
pub mod Named
pub mod Passes
pub mod CellSums
pub mod CheckCases
pub mod Declared
pub mod Numbers
pub mod CheckSays
pub mod Few
pub mod ArrayLoops
pub mod ArrayTree
pub mod Starred
pub mod Determined
