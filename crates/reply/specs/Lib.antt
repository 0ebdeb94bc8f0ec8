-- What a reader must believe of a reply's bytes; `Promise` says what is proved of them.
pub mod Write
pub mod WellFormed
pub mod Read
pub mod Promise
pub mod inner
