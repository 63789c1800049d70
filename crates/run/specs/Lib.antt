-- The definitions of `run`.
pub mod Report
