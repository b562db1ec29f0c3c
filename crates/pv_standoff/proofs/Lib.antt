-- for other crates:
-- of this crate:
pub mod Lists
pub mod OneSortedOrder
pub mod SameForests
pub mod OneDocument
pub mod Pushes
pub mod Stacks
pub mod Order
pub mod NoCrossing
pub mod OpenRanges
pub mod SomeDocument
pub mod SortedOrder
pub mod BuiltDocuments
pub mod FirstCrossing
pub mod OneMeaning
pub mod TextLemmas
pub mod Facts
pub mod ReadingLemmas
pub mod SomeMeaning
