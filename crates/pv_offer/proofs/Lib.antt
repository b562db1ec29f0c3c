-- of this crate:
mod EditsOfAnyName
mod ChosenNames
mod Outlines
pub mod SharedDocument
