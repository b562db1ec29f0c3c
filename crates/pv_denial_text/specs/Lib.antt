pub mod Lines
pub mod Fronts
pub mod Texts
pub mod Meaning
pub mod Steps
pub mod Laws
