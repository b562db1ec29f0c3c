-- of this crate:
pub mod PossibleCounts
pub mod InsertedLists
pub mod ListsByWords
pub mod EndedLists
pub mod Refusals
pub mod WholeRoots
pub mod KnownWords
