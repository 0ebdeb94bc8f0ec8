-- The laws of calls and rounds, and the proofs of what `specs/Promise.antt` promises.
pub mod Sums
pub mod Laid
pub mod Verdicts
pub mod Trace
pub mod Conditions
pub mod Condition3
pub mod Alone
pub mod Boxed
pub mod Tried
pub mod Table
