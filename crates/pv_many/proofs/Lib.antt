pub mod Inputs
pub mod NamedAnswers
pub mod NamesRead
pub mod Pieces
pub mod RequestWords
pub mod Runs
pub mod CallResults
pub mod ValidTexts
