-- of this crate:
pub mod GrowingWords
pub mod SimpleRuns
pub mod KnownTags
pub mod Stack
pub mod TypesFound
pub mod FactsAfterItems
pub mod RootItems
pub mod Refusals
pub mod WholeDocuments
pub mod FirstOfLists
