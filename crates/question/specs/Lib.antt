-- What a reader must believe of a list by value: its rules, and the entries that it stands for.
pub mod Listed
pub mod inner
