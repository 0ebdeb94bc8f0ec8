-- The laws behind solving.
pub mod Formulas
pub mod Replies
pub mod Answers
