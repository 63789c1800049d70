-- The definitions of `table`.
pub mod Table
