-- The laws behind the reader's proofs.
pub mod Text
pub mod Emit
pub mod Made
pub mod Ways
pub mod Heads
pub mod Words
pub mod Units
pub mod Walk
pub mod Chains
pub mod Ready
pub mod Nesting
pub mod Unique
pub mod Pack
pub mod Alike
pub mod Placed
pub mod Outcome
