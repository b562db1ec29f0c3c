pub mod Sections
pub mod Laws
