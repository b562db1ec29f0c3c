-- of this crate:
pub mod BoundSums
pub mod ExactAnswers
pub mod GoalWork
pub mod RoomPast
pub mod TaggedDocs
pub mod KnownLists
