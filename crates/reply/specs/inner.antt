-- What inner functions' contracts cite, and no reader has to believe.
pub mod Decode
pub mod Checked
pub mod Fields
pub mod Promise
