-- for other crates:
pub mod StampsAlone
pub mod Steps
pub mod Ways
-- of this crate:
pub mod LastItems
pub mod WaysToOpenedDocuments
pub mod Moves
