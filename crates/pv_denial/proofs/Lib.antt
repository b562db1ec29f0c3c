-- for other crates:
pub mod ListJudgements
pub mod DeniedLists
pub mod Lists
pub mod PartSites
pub mod SiteRows
-- of this crate:
pub mod Contents
pub mod RowRules
pub mod RowIndex
pub mod MostOfNames
pub mod OneJudgement
pub mod RisingValues
pub mod SiteKinds
pub mod Sites
pub mod ListsAtPaths
pub mod Tokens
