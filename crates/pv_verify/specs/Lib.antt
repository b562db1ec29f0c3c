pub mod Tests
pub mod Laws
pub mod Answers
pub mod ReadBodies
