-- Laws of `words`: Laws, Samples and Determined for the reader; Writing, Lines and Zeros for proofs.
pub mod Writing
pub mod Lines
pub mod Zeros
pub mod Laws
pub mod Samples
pub mod Determined
