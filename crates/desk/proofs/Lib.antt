-- The laws of the definitions in specs/, and the proofs of what `specs/Promise.antt` promises.
pub mod Calling
pub mod Unique
pub mod Keeping
pub mod Numbers
