pub mod Causes
pub mod Rows
pub mod Judgements
pub mod Laws
pub mod Places
pub mod Indexes
pub mod RowForms
