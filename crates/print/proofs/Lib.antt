-- The laws of `print`: Determined for the reader, Rows and Noughts for the proofs here and above.
pub mod Rows
pub mod Noughts
pub mod Determined
