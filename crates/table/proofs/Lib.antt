-- The table: what its functions store, and the law of the table of a checked file.
pub mod Numbers
pub mod Stores
pub mod Loops
pub mod Facts
pub mod Parts
pub mod Entries
pub mod First
pub mod Second
pub mod Offsets
pub mod Tabled
pub mod Determined
