pub mod Sessions
pub mod Steps
pub mod Answers
pub mod SessionFacts
pub mod Codes
pub mod PlainForms
pub mod Laws
