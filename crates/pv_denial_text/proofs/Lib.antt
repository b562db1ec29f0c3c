-- of this crate:
pub mod ValueWords
pub mod RowWords
pub mod LineSequences
pub mod RowLines
pub mod OneLine
pub mod OneMeaning
pub mod Heads
pub mod WrittenLines
