-- of this crate:
pub mod Runs
pub mod ItemsRead
pub mod ValuesRead
pub mod DeclarationsRead
pub mod BetweenRead
pub mod OneExpansion
pub mod SomeExpansion
pub mod CharactersRead
pub mod Heads
pub mod Stacks
pub mod EntitiesKept
pub mod PlainRuns
pub mod Steps
pub mod ExpansionAnswers
pub mod PlainFiles
