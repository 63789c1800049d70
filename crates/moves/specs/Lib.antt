-- The definitions of `moves`, the rules of document 01.
pub mod Labels
pub mod Edges
pub mod Places
pub mod Stores
pub mod Step
pub mod Runs
pub mod Reasons
