pub mod Text
pub mod Writes
pub mod Laws
pub mod Events
pub mod Pieces
pub mod PieceForms
pub mod TaggedTexts
pub mod WritingForms
