-- The laws of record and store.
pub mod Tiles
pub mod Children
pub mod Pieces
pub mod Judgement
