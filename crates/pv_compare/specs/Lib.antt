pub mod Kept
pub mod LeftOut
pub mod ReadEvents
pub mod ReaderMoves
pub mod WantedEvents
pub mod EventComparison
