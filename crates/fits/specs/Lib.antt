-- The definitions of `fits`.
pub mod Fits
