pub mod Answers
pub mod RequestWords
pub mod ToldLines
