-- What inner functions' contracts cite, and no reader has to believe.
pub mod Flat
pub mod Memory
pub mod Made
