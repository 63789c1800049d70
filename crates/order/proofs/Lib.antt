-- The laws of the order of records.
pub mod OrderParts
pub mod OrderOpen
pub mod OrderReads
pub mod OrderText
pub mod OrderSays
pub mod Stacks
pub mod OrderWalk
pub mod Determined
