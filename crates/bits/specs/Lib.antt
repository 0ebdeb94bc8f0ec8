-- What a reader must believe of bits and bytes; `Promise` says what is proved of it.
pub mod Bits
pub mod Fields
pub mod Promise
pub mod inner
