pub mod RequestAnswers
pub mod Exits
pub mod Requests
pub mod ToldNumbers
