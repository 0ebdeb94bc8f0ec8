-- What a reader must believe of a depot's answer; `Promise` says what is proved of it.
pub mod Number
pub mod Answer
pub mod Promise
pub mod inner
