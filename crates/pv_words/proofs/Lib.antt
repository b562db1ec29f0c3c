-- for other crates:
pub mod FirstWords
pub mod NumberWords
pub mod PathWords
pub mod RawLines
pub mod Cuts
-- of this crate:
pub mod Returns
pub mod DigitsRead
