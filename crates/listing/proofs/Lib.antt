-- The laws behind the listing's proofs.
pub mod Lines
