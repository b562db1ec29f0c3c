-- for other crates:
pub mod RowTools
pub mod SectionRows
pub mod Sections
-- of this crate:
pub mod AnyRows
pub mod Bounds
pub mod DeepRows
pub mod DoublingRows
pub mod NestedRows
pub mod PairRows
pub mod SectionBounds
pub mod TableRows
pub mod WordRows
