-- The definitions of `names`.
pub mod Names
