-- What a reader must believe of the reader's answer; `Promise` says what is proved of it.
pub mod Nesting
pub mod Packed
pub mod Read
pub mod Promise
pub mod inner
