-- of this crate:
pub mod Annotations
pub mod Certificates
pub mod CommandCounts
pub mod DtdLines
pub mod DtdListings
pub mod MadePacks
pub mod PackLines
pub mod DocumentPacks
pub mod Validities
