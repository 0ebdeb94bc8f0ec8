-- What a reader must believe of record and store.
pub mod Tiles
pub mod Whole
pub mod inner
