-- The laws behind writing a reply.
pub mod Chunks
pub mod Codes
pub mod Counted
pub mod Cut
pub mod Whole
pub mod Rows
pub mod Laid
pub mod LaidIn
