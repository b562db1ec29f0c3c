-- for other crates:
pub mod EventLists
-- of this crate:
pub mod WrittenTexts
pub mod MergedTexts
pub mod Runs
pub mod Views
pub mod TaggedNodes
