-- What the order asks, over the public contracts of question, depot, reply and desk and over meaning. `Promise` is what is proved.
pub mod Calls
pub mod Round
pub mod Promise
pub mod Trial
