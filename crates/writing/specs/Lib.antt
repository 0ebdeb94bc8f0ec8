-- Writing a reply is an inner function: no reader has to believe what its contract cites.
pub mod inner
