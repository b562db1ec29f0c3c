-- of this crate:
pub mod ToldSites
pub mod RowFacts
pub mod WordRows
pub mod Outcomes
pub mod DenialsAtPaths
pub mod Denials
pub mod FurthestPlaces
