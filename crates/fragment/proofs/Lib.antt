-- A row's rule as the code tests it, and chains of tests.
pub mod Rules
pub mod Decoded
