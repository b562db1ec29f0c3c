-- for other crates:
pub mod ClosedMarks
pub mod Spans
-- of this crate:
pub mod Bits
pub mod EdgeJoins
pub mod FreeColumns
pub mod RepeatedColumns
pub mod Runs
pub mod EdgesAndSeeds
pub mod SetsTaken
pub mod TakenTokens
