pub mod Sample
pub mod Answers
