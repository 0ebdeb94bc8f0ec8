-- The laws of the definitions in specs/: a number and its bits, the bits within a byte, how reads and writes compose, bits packed into bytes.
pub mod Digits
pub mod Byte
pub mod Laws
pub mod Packed
mod Blank
