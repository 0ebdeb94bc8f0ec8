-- The laws behind the formula's proofs.
pub mod KindTests
pub mod Loops
pub mod Words
pub mod Counts
pub mod Joins
pub mod Stops
pub mod Held
pub mod Grows
pub mod Visits
pub mod Pushes
pub mod Sweeps
