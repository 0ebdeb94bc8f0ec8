-- What the lent slices stand for; a fragment's rules are in crate meaning.
pub mod Lent
pub mod inner
