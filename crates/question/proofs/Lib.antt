-- The laws of a list by value.
pub mod Codes
pub mod Decoded
pub mod Listed
