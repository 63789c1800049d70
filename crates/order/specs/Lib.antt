-- The definitions of `order`.
pub mod Trees
pub mod Order
pub mod Stack
