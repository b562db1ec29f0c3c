-- for other crates:
pub mod EntryWords
pub mod OneLine
-- of this crate:
pub mod EntryFronts
pub mod Fronts
pub mod LineSequences
pub mod TableLines
pub mod OneMeaning
pub mod Heads
pub mod EntryOrder
pub mod WrittenPacks
