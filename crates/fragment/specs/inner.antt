-- What inner functions' contracts cite, and no reader has to believe.
pub mod Kind
pub mod Parts
pub mod Promise
