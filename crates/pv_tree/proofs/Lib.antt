-- for other crates:
pub mod JoinedLists
pub mod FirstLists
pub mod Levels
pub mod Forests
pub mod Owners
pub mod PathOrder
pub mod ListSearches
pub mod Marks
pub mod Walks
pub mod ValidLists
pub mod FirstInvalid
pub mod CharacterData
pub mod Decisions
pub mod DecidedForms
-- of this crate:
pub mod ListsAtPaths
pub mod AlikeWords
pub mod ShownWords
