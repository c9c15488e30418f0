-- Answers      what the answers of the one-shots say of a record
pub mod Answers
