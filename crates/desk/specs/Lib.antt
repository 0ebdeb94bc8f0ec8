-- What a reader must believe of the desk's calls; `Promise` says what is proved of them.
pub mod Changed
pub mod Numbers
pub mod Calls
pub mod Promise
