-- The laws behind the depot's proofs, and the proofs of what `specs/Promise.antt` promises.
pub mod Answers
pub mod Promised
