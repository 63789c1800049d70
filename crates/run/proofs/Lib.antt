-- The laws of `run`: Determined for the reader, Running for the proofs here.
pub mod Running
pub mod Determined
