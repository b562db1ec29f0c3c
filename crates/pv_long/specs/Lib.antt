pub mod BoundAnswers
pub mod AddedBounds
pub mod NewTags
pub mod Ends
pub mod Goals
pub mod KnownBounds
