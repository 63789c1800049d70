-- The laws of refusals 7 and 8 on the bytes.
pub mod NamesCases
pub mod Determined
