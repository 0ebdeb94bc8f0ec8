-- What a reader must believe of the listing; `Promise` says what is proved of it.
pub mod Listing
pub mod Promise
pub mod inner
