-- The definitions of `records`.
pub mod Records
pub mod Kinds
pub mod Faults
pub mod Walk
pub mod Left
pub mod Reading
