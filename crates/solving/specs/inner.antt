-- What inner functions' contracts cite, and no reader has to believe.
pub mod Sound
pub mod Values
