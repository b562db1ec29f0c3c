-- of this crate:
pub mod PositionsAfterName
pub mod Answer
pub mod EmptyWords
pub mod Joins
pub mod LayingOut
pub mod LayoutPlaces
pub mod LayoutSteps
pub mod LayoutWords
pub mod PositionLists
pub mod LongAnswer
pub mod Progress
pub mod ReachedPositions
pub mod WordWalks
pub mod SplitPlaces
pub mod Tokens
pub mod UnreachedPositions
pub mod WrittenPositions
