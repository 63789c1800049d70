-- The definitions that the contracts of `words` cite.
pub mod Words
pub mod Zeros
