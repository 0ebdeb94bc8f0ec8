-- The laws of the definitions in specs/, and the proofs of what `specs/Promise.antt` promises.
pub mod Lists
pub mod Fields
pub mod Checked
pub mod Parts
pub mod Tests
pub mod ReadTests
pub mod Round
pub mod Judge
pub mod Verdicts
pub mod Unique
pub mod Trial
