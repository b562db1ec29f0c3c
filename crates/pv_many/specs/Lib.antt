pub mod Answers
pub mod Archives
pub mod Many
pub mod Names
pub mod MissingAnswers
pub mod Requests
pub mod ValidTexts
