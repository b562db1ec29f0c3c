-- for other crates:
pub mod Sections
pub mod Verdicts
pub mod WrappedSections
pub mod DtdText
-- of this crate:
pub mod DocumentText
