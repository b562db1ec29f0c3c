-- for other crates:
pub mod RulesByKind
pub mod DerivationLaws
pub mod DerivationsMade
pub mod Facts
pub mod FlatContents
pub mod FlatKinds
pub mod FormedParts
pub mod Members
pub mod SitesKept
pub mod Spans
-- of this crate:
pub mod BarrierRows
pub mod ClosedSites
pub mod FlatModels
pub mod FlatNumbers
pub mod FlatParts
pub mod PartNumbers
pub mod Numbers
pub mod Rests
